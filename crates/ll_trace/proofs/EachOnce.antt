-- Processes that are the roots together with the children of their own members are all processes, each once.
use Rattle.std.proofs.Common.{◌≡◌, ℕ, ◌+◌, ◌<◌, cond, eqb, List, [], ◌∷◌, ◌++◌, refl, inl, inr, arith, zero, suc, Bool, true, false, map, Option, Some, None}
use Rattle.std.proofs.Common.{sym, ap, ◌∙◌}
use Rattle.std.specs.Prelude.{◌==◌, sum_by, slice_get, filter}
use Rattle.std.specs.List.{flat_map, filter_map, cons_option}
use Rattle.std.proofs.lemmas.Bool.{cases_eq, eq-eqb, ne_eqb, cases_Bool}
use Rattle.std.proofs.lemmas.List.Concat.{flat_map-cons}
use Rattle.std.proofs.lemmas.List.Sums.{sum_by-append, sum_by-cons}
use Rattle.ll_trace.specs.Processes.{times, is_start, is_fork, process_count, forked_at, own_from, own_records, children, kids, root_of, roots, IsNumbered}
use Rattle.std.proofs.lemmas.Option.{cond_some, none-some, same_Some}
use Rattle.ll_trace.specs.declared.op.Record.{Record}
use Rattle.ll_trace.proofs.Numbers.{start-starts, fork-starts, starts_alone, fork_no_start, StartedAt, forked_at-is, forked_at-from, forked_at-none}
use Rattle.ll_trace.proofs.Numbers.{started_once, start_of}

-- ---- how often a process is in a list, and that equal counts add up to equal sums

pub times-append : (q : ℕ) (xs ys : List ℕ) → times q (xs ++ ys) ≡ times q xs + times q ys
unfolding times
times-append q xs ys = sum_by-append (λ p. cond (p == q) 1 0) xs ys

pub times-nil : (q : ℕ) → times q [] ≡ 0
unfolding times
times-nil q = refl

pub times-same : (q p : ℕ) → p ≡ q → times q (p ∷ []) ≡ 1
unfolding times
times-same q p same = rw (eq-eqb p q same) refl

pub times-other : (q p : ℕ) → (p ≡ q → ⊥) → times q (p ∷ []) ≡ 0
unfolding times
times-other q p other = rw (ne_eqb p q other) refl

pub times-cons : (q p : ℕ) (xs : List ℕ) → times q (p ∷ xs) ≡ times q (p ∷ []) + times q xs
times-cons q p xs = times-append q (p ∷ []) xs

pub times-none : (p : ℕ) (f : ℕ → List ℕ) → ((q : ℕ) → times p (f q) ≡ 0) → (qs : List ℕ) → times p (flat_map f qs) ≡ 0
times-none p f none [] = times-nil p
times-none p f none (q ∷ qs) = rw flat_map-cons (omega (arith, times-append p (f q) (flat_map f qs), none q, times-none p f none qs))

pub times-each : (p parent : ℕ) (f : ℕ → List ℕ) → ((q : ℕ) → times p (f q) ≡ times parent (q ∷ [])) → (qs : List ℕ) → times p (flat_map f qs) ≡ times parent qs
times-each p parent f each [] = rw (times-nil p, times-nil parent) refl
times-each p parent f each (q ∷ qs) =
    rw flat_map-cons (omega (arith, times-append p (f q) (flat_map f qs), each q, times-each p parent f each qs, times-cons parent q qs))

-- a list without the first index at which a process is
without : ℕ → List ℕ → List ℕ
without p [] = []
without p (x ∷ xs) = cond (eqb x p) xs (x ∷ without p xs)

weighs-without : (w : ℕ → ℕ) (p : ℕ) (xs : List ℕ) → 0 < times p xs → sum_by w xs ≡ w p + sum_by w (without p xs)
unfolding without
weighs-without w p [] some = absurd (omega (arith, some, times-nil p))
weighs-without w p (x ∷ xs) some = elim (cases_eq x p) [
  | inl same ↦ rw (eq-eqb x p same, same) (sum_by-cons w p xs)
  | inr other ↦
      let later : 0 < times p xs = omega (arith, some, times-cons p x xs, times-other p x other) in
      rw (ne_eqb x p other) (omega (arith, sum_by-cons w x xs, sum_by-cons w x (without p xs), weighs-without w p xs later))
]

times-without : (q p : ℕ) (xs : List ℕ) → 0 < times p xs → times q xs ≡ times q (p ∷ []) + times q (without p xs)
unfolding times
times-without q p xs some =
    omega (arith, weighs-without (λ other. cond (eqb other q) 1 0) p xs some, sum_by-cons (λ other. cond (eqb other q) 1 0) p [])

-- lists in which each process is as often add up to the same, whatever number is given to each process
pub equal_weights : (xs ys : List ℕ) → ((p : ℕ) → times p xs ≡ times p ys) → (w : ℕ → ℕ) → sum_by w xs ≡ sum_by w ys
equal_weights [] [] same w = refl
equal_weights [] (y ∷ ys) same w = absurd (omega (arith, same y, times-nil y, times-cons y y ys, times-same y y refl))
equal_weights (x ∷ xs) ys same w =
    let some : 0 < times x ys = omega (arith, same x, times-cons x x xs, times-same x x refl) in
    let rest : (p : ℕ) → times p xs ≡ times p (without x ys) = λ p. omega (arith, same p, times-cons p x xs, times-without p x ys some) in
    omega (arith, sum_by-cons w x xs, weighs-without w x ys some, equal_weights xs (without x ys) rest w)

-- ---- processes that records give, each record by its index

among : (ℕ → Record → Option ℕ) → ℕ → List Record → List ℕ
among gives b [] = []
among gives b (r ∷ rs) = cons_option (gives b r) (among gives (b + 1) rs)

-- how often a process is the one given
given : ℕ → Option ℕ → ℕ
given p o = times p (cons_option o [])

times-option : (p : ℕ) (o : Option ℕ) (xs : List ℕ) → times p (cons_option o xs) ≡ given p o + times p xs
unfolding given
times-option p None xs = omega (arith, times-nil p)
times-option p (Some x) xs = times-cons p x xs

not_given : (p : ℕ) (o : Option ℕ) → (o ≡ Some p → ⊥) → given p o ≡ 0
unfolding given
not_given p None other = times-nil p
not_given p (Some x) other = times-other p x (λ same. other (ap (λ n. Some n) same))

module _ (gives : ℕ → Record → Option ℕ) (p : ℕ) where
  next : (b j : ℕ) (r : Record) → gives (b + 1 + j) r ≡ Some p → gives (b + suc j) r ≡ Some p
  next b j r is = (let same : b + suc j ≡ b + 1 + j = omega arith in ap (λ n. gives n r) same) ∙ is

  here : (b : ℕ) (r : Record) → gives b r ≡ gives (b + 0) r
  here b r = let same : b ≡ b + 0 = omega arith in ap (λ n. gives n r) same

  none_among : (b : ℕ) (rs : List Record) → ((j : ℕ) (r : Record) → slice_get rs j ≡ Some r → gives (b + j) r ≡ Some p → ⊥) → times p (among gives b rs) ≡ 0
  unfolding among
  none_among b [] none = times-nil p
  none_among b (r ∷ rs) none = omega (
    arith,
    times-option p (gives b r) (among gives (b + 1) rs),
    not_given p (gives b r) (λ is. none 0 r refl (sym (here b r) ∙ is)),
    none_among (b + 1) rs (λ j x eq is. none (suc j) x eq (next b j x is)),
  )

  -- where one index alone gives the process
  once_among : (b : ℕ) (rs : List Record) (k : ℕ) (r : Record) → slice_get rs k ≡ Some r
      → ((j : ℕ) (x : Record) → slice_get rs j ≡ Some x → gives (b + j) x ≡ Some p → j ≡ k)
      → times p (among gives b rs) ≡ given p (gives (b + k) r)
  unfolding among
  once_among b [] k r eq alone = absurd (none-some r eq)
  once_among b (x ∷ rs) zero r eq alone = omega (
    arith,
    times-option p (gives b x) (among gives (b + 1) rs),
    none_among (b + 1) rs (λ j y there is. (let no : suc j ≡ 0 = alone (suc j) y there (next b j y is) in omega (arith, no))),
    ap (given p) (here b x ∙ ap (gives (b + 0)) (same_Some x r eq)),
  )
  once_among b (x ∷ rs) (suc k) r eq alone = omega (
    arith,
    times-option p (gives b x) (among gives (b + 1) rs),
    not_given p (gives b x) (λ is. (let no : 0 ≡ suc k = alone 0 x refl (sym (here b x) ∙ is) in omega (arith, no))),
    once_among (b + 1) rs k r eq (λ j y there is. (let same : suc j ≡ suc k = alone (suc j) y there (next b j y is) in omega (arith, same))),
    ap (λ n. given p (gives n r)) (let same : b + 1 + k ≡ b + suc k = omega arith in same),
  )

-- ---- the children of a process, and the roots

child_of : List Record → ℕ → ℕ → Record → Option ℕ
child_of records q k r = cond (eqb r.process.0 q) (forked_at records k) None

children_among : (records : List Record) (q b : ℕ) (rs : List Record) → filter_map (forked_at records) (own_from q b rs) ≡ among (child_of records q) b rs
unfolding own_from among child_of
children_among records q b [] = refl
children_among records q b (r ∷ rs) = own (eqb r.process.0 q) (children_among records q (b + 1) rs)
  where
    own : (is : Bool) → filter_map (forked_at records) (own_from q (b + 1) rs) ≡ among (child_of records q) (b + 1) rs
        → filter_map (forked_at records) (cond is (b ∷ own_from q (b + 1) rs) (own_from q (b + 1) rs))
        ≡ cons_option (cond is (forked_at records b) None) (among (child_of records q) (b + 1) rs)
    own true rest = ap (λ xs. cons_option (forked_at records b) xs) rest
    own false rest = rest

roots_among : (b : ℕ) (rs : List Record) → roots rs ≡ among (λ k r. root_of (Some r)) b rs
unfolding roots among root_of
roots_among b [] = refl
roots_among b (r ∷ rs) = begun (is_start r.op) (roots_among (b + 1) rs)
  where
    begun : (is : Bool) → roots rs ≡ among (λ k x. root_of (Some x)) (b + 1) rs
        → map (λ (x : Record). x.process.0) (cond is (r ∷ filter (λ (x : Record). is_start x.op) rs) (filter (λ (x : Record). is_start x.op) rs))
        ≡ cons_option (cond is (Some r.process.0) None) (among (λ k x. root_of (Some x)) (b + 1) rs)
    begun true rest = ap (λ xs. r.process.0 ∷ xs) rest
    begun false rest = rest

some_of : (b : Bool) (o : Option ℕ) (p : ℕ) → cond b o None ≡ Some p → o ≡ Some p
some_of true o p is = is
some_of false o p is = absurd (none-some p is)

module _ (records : List Record) (p k : ℕ) (numbered : IsNumbered records) (one : StartedAt records k p) where
  -- the record that starts a process is the only one that gives it
  roots-count : times p (roots records) ≡ given p (root_of (Some one.of))
  unfolding root_of
  roots-count = ap (times p) (roots_among 0 records)
      ∙ once_among (λ i r. root_of (Some r)) p 0 records k one.of one.at
      (λ i r eq is.
      let begun = cond_some (is_start r.op) r.process.0 p is in
      started_once records i k p (record { of = r; at = eq; kind = start-starts r.op begun.0; number = sym begun.1 ∙ numbered.begins i r eq begun.0 }) one)

  children-count : (q : ℕ) → times p (children records q) ≡ given p (cond (eqb one.of.process.0 q) (forked_at records k) None)
  unfolding children own_records child_of
  children-count q = ap (times p) (children_among records q 0 records)
      ∙ once_among (child_of records q) p 0 records k one.of one.at
      (λ i r eq is.
      let forked =
      forked_at-is records i p ((let same : i ≡ 0 + i = omega arith in ap (forked_at records) same)
      ∙ some_of (eqb r.process.0 q) (forked_at records (0 + i)) p is) in
      started_once records i k p (record { of = forked.of; at = forked.at; kind = fork-starts forked.of.op forked.kind; number = forked.number }) one)
      ∙ (let same : 0 + k ≡ k = omega arith in ap (λ n. given p (cond (eqb one.of.process.0 q) (forked_at records n) None)) same)

  -- ---- each once

  once_started : (processes : List ℕ) → times p processes ≡ times p (roots records) + times p (kids records processes)
      → is_start one.of.op ≡ true → times p processes ≡ 1
  unfolding root_of kids given
  once_started processes all starts =
      let no_fork : is_fork one.of.op ≡ false = elim (cases_Bool (is_fork one.of.op)) [
        | inl forks ↦ absurd (cc (starts, fork_no_start one.of.op forks))
        | inr not ↦ not
      ] in
      let none : (q : ℕ) → times p (children records q) ≡ 0 = λ q. children-count q ∙ not_given p (cond (eqb one.of.process.0 q) (forked_at records k) None)
      (λ is. none-some p (sym (forked_at-none records k one.of one.at no_fork) ∙ some_of (eqb one.of.process.0 q) (forked_at records k) p is)) in
      let root : times p (roots records) ≡ 1 =
      roots-count ∙ rw starts (times-same p one.of.process.0 (numbered.begins k one.of one.at starts ∙ sym one.number)) in
      omega (arith, all, root, times-none p (children records) none processes)

  once_forked : (processes : List ℕ) → times p processes ≡ times p (roots records) + times p (kids records processes) → is_start one.of.op ≡ false
      → times p processes ≡ times one.of.process.0 processes
  unfolding root_of kids given
  once_forked processes all goes =
      let child : forked_at records k ≡ Some p =
      forked_at-from records k one.of one.at (starts_alone one.of.op one.kind goes) ∙ ap (λ n. Some n) (sym one.number) in
      let each : (q : ℕ) → times p (children records q) ≡ times one.of.process.0 (q ∷ []) = λ q. elim (cases_eq one.of.process.0 q) [
        | inl own ↦ rw (children-count q, eq-eqb one.of.process.0 q own, child) (omega (arith, times-same p p refl, times-same one.of.process.0 q (sym own)))
        | inr other ↦
            rw (children-count q, ne_eqb one.of.process.0 q other) (omega (arith, times-nil p, times-other one.of.process.0 q (λ same. other (sym same))))
      ] in
      let root : times p (roots records) ≡ 0 = roots-count ∙ rw goes (times-nil p) in
      omega (arith, all, root, times-each p one.of.process.0 (children records) each processes)

pub each_once : (records : List Record) (processes : List ℕ) → IsNumbered records
    → ((p : ℕ) → times p processes ≡ times p (roots records) + times p (kids records processes)) → (p : ℕ) → p < process_count records → times p processes ≡ 1
each_once records processes numbered all p there = below (suc p) p (omega arith) there
  where
    below : (n q : ℕ) → q < n → q < process_count records → times q processes ≡ 1
    below zero q less there = absurd (omega arith)
    below (suc n) q less there =
        let (k, one) = start_of records q there in
        elim (cases_Bool (is_start one.of.op)) [
          | inl starts ↦ once_started records q k numbered one processes (all q) starts
          | inr goes ↦
              let parent : one.of.process.0 < q = omega (arith, numbered.goes_on k one.of one.at goes, one.number) in
              once_forked records q k numbered one processes (all q) goes ∙ below n one.of.process.0 (omega arith) (omega arith)
        ]

-- where the sums of all weights agree, so do the counts
pub each_once_weighed : (records : List Record) (processes : List ℕ) → IsNumbered records
    → ((weight : ℕ → ℕ) → sum_by weight processes ≡ sum_by weight (roots records) + sum_by weight (kids records processes))
    → (p : ℕ) → p < process_count records → times p processes ≡ 1
unfolding times
each_once_weighed records processes numbered shared = each_once records processes numbered (λ p. shared (λ other. cond (eqb other p) 1 0))
