-- The numbers of processes: how many are started before a record, and which record starts each.
use Rattle.std.proofs.Common.{◌≡◌, ℕ, Bool, true, false, refl, ap, ◌≢◌, zero, suc, ◌+◌, ◌<◌, ◌≤◌, cond, eqb, List, [], ◌∷◌, ◌++◌, length, take, Option, Some}
use Rattle.std.proofs.Common.{None, sym, ◌∙◌, subst, inl, inr, arith}
use Rattle.std.specs.Prelude.{is_some, slice_get}
use Rattle.std.specs.Option.{option_flatten}
use Rattle.ll_trace.specs.declared.op.Op.{Op}
use Rattle.ll_trace.specs.declared.op.Op.TheVariants.{Start, Fork}
use Rattle.ll_trace.specs.Entries.{is_start, pid_started}
use Rattle.ll_trace.specs.Processes.{is_fork, is_starting, is_start, process_count, number_if, started_at, forked_at, forked_by, parents, parent_of}
use Rattle.ll_trace.specs.Processes.{IsNumbered}
use Rattle.std.proofs.Math.Dec.{eqb-suc-zero, eqb-zero-suc, eqb-suc-suc}
use Rattle.std.proofs.lemmas.Bool.{cases_lt, cases_eq, eq-eqb, ne_eqb}
use Rattle.std.proofs.lemmas.List.{take-append-le, take_all}
use Rattle.std.proofs.lemmas.List.Sums.{sum_by-cons, sum_by_push}
use Rattle.std.proofs.lemmas.Option.{cond_some, none-some, same_Some, slice_get_within}
use Rattle.ll_trace.specs.declared.op.ProcessId.{ProcessId}
use Rattle.ll_trace.specs.declared.op.Record.{Record}

-- ---- which calls start a process

-- a call that starts a process starts it under a pid
pub starting-op : (op : Op) (pid : ℕ) → is_some (pid_started op pid) ≡ is_starting op
unfolding pid_started is_starting
starting-op (Start nnp admin) pid = refl
starting-op (Fork child) pid = refl
starting-op op pid = refl

pub fork-starts : (op : Op) → is_fork op ≡ true → is_starting op ≡ true
unfolding is_starting is_fork
fork-starts (Fork child) holds = refl
fork-starts op holds = cc

pub start-starts : (op : Op) → is_start op ≡ true → is_starting op ≡ true
unfolding is_starting is_start
start-starts (Start nnp admin) holds = refl
start-starts op holds = cc

pub starts_alone : (op : Op) → is_starting op ≡ true → is_start op ≡ false → is_fork op ≡ true
unfolding is_starting is_start is_fork
starts_alone (Start nnp admin) holds fails = cc
starts_alone (Fork child) holds fails = refl
starts_alone op holds fails = cc

pub fork_no_start : (op : Op) → is_fork op ≡ true → is_start op ≡ false
unfolding is_start is_fork
fork_no_start (Fork child) holds = refl
fork_no_start op holds = cc

pub is_start-from : (op : Op) (nnp admin : Bool) → op ≡ Start nnp admin → is_start op ≡ true
unfolding is_start
is_start-from op nnp admin is = ap (λ o. is_start o) is

-- ---- counting one record more

pub process_count-cons : (r : Record) (rs : List Record) → process_count (r ∷ rs) ≡ cond (is_starting r.op) 1 0 + process_count rs
unfolding process_count
process_count-cons r rs = sum_by-cons (λ (x : Record). cond (is_starting x.op) 1 0) r rs

pub process_count-push : (rs : List Record) (r : Record) → process_count (rs ++ r ∷ []) ≡ process_count rs + cond (is_starting r.op) 1 0
unfolding process_count
process_count-push rs r = sum_by_push (λ (x : Record). cond (is_starting x.op) 1 0) rs r

pub count-more : (rs : List Record) (k : ℕ) (r : Record) → slice_get rs k ≡ Some r
    → process_count (take (suc k) rs) ≡ process_count (take k rs) + cond (is_starting r.op) 1 0
count-more [] k r eq = cc
count-more (x ∷ rs) zero r eq =
    let same : x ≡ r = same_Some x r eq in
    subst (λ (y : Record). process_count (x ∷ []) ≡ process_count [] + cond (is_starting y.op) 1 0) same (omega (arith, process_count-cons x []))
count-more (x ∷ rs) (suc k) r eq = omega (arith, count-more rs k r eq, process_count-cons x (take (suc k) rs), process_count-cons x (take k rs))

counts_one : (b : Bool) → b ≡ true → (let one : ℕ = cond b 1 0 in one ≡ 1)
counts_one true holds = refl
counts_one false holds = cc

-- one process more
pub count-started : (rs : List Record) (k : ℕ) (r : Record) → slice_get rs k ≡ Some r → is_starting r.op ≡ true
    → process_count (take (suc k) rs) ≡ process_count (take k rs) + 1
count-started rs k r eq starts = omega (arith, count-more rs k r eq, counts_one (is_starting r.op) starts)

nil_count : (m : ℕ) → process_count (take m []) ≡ 0
unfolding process_count
nil_count zero = refl
nil_count (suc m) = refl

pub no_count : (rs : List Record) → process_count (take 0 rs) ≡ 0
unfolding process_count
no_count rs = refl

pub count-le : (rs : List Record) (k m : ℕ) → k ≤ m → process_count (take k rs) ≤ process_count (take m rs)
count-le [] k m less = omega (arith, nil_count k, nil_count m)
count-le (x ∷ rs) zero m less = omega (arith, no_count (x ∷ rs))
count-le (x ∷ rs) (suc k) zero less = absurd (omega arith)
count-le (x ∷ rs) (suc k) (suc m) less =
    omega (arith, count-le rs k m (omega arith), process_count-cons x (take k rs), process_count-cons x (take m rs))

pub count-all : (rs : List Record) (k : ℕ) → process_count (take k rs) ≤ process_count rs
count-all [] k = omega (arith, nil_count k)
count-all (x ∷ rs) zero = omega (arith, no_count (x ∷ rs))
count-all (x ∷ rs) (suc k) = omega (arith, count-all rs k, process_count-cons x (take k rs), process_count-cons x rs)

-- ---- which record starts a process

-- a record of a kind that starts a process, whose number counts the ones before
pub record KindAt (is_kind : Op → Bool) (rs : List Record) (k p : ℕ) : Type 0 where
  pub of : Record
  pub at : slice_get rs k ≡ Some of
  pub kind : is_kind of.op ≡ true
  pub number : p ≡ process_count (take k rs)

abbrev pub StartedAt : List Record → ℕ → ℕ → Type 0
StartedAt = KindAt is_starting

abbrev pub ForkedAt : List Record → ℕ → ℕ → Type 0
ForkedAt = KindAt is_fork

kind_at : (is_kind : Op → Bool) (rs : List Record) (k p : ℕ) (o : Option Record) → slice_get rs k ≡ o
    → number_if is_kind rs k o ≡ Some p → KindAt is_kind rs k p
unfolding number_if
kind_at is_kind rs k p None eq is = absurd (none-some p is)
kind_at is_kind rs k p (Some r) eq is =
    let parts = cond_some (is_kind r.op) (process_count (take k rs)) p is in
    record { of = r; at = eq; kind = parts.0; number = sym parts.1 }

pub started_at-is : (rs : List Record) (k p : ℕ) → started_at rs k ≡ Some p → StartedAt rs k p
unfolding started_at
started_at-is rs k p is = kind_at is_starting rs k p (slice_get rs k) refl is

pub forked_at-is : (rs : List Record) (k p : ℕ) → forked_at rs k ≡ Some p → ForkedAt rs k p
unfolding forked_at
forked_at-is rs k p is = kind_at is_fork rs k p (slice_get rs k) refl is

pub started_at-from : (rs : List Record) (k : ℕ) (r : Record) → slice_get rs k ≡ Some r → is_starting r.op ≡ true
    → started_at rs k ≡ Some (process_count (take k rs))
unfolding started_at number_if
started_at-from rs k r eq starts = rw (eq, starts) refl

pub forked_at-from : (rs : List Record) (k : ℕ) (r : Record) → slice_get rs k ≡ Some r → is_fork r.op ≡ true → forked_at rs k ≡ Some (process_count (take k rs))
unfolding forked_at number_if
forked_at-from rs k r eq forks = rw (eq, forks) refl

pub forked_at-none : (rs : List Record) (k : ℕ) (r : Record) → slice_get rs k ≡ Some r → is_fork r.op ≡ false → forked_at rs k ≡ None
unfolding forked_at number_if
forked_at-none rs k r eq forks = rw (eq, forks) refl

-- a process is started by one record
pub started_once : (rs : List Record) (j k p : ℕ) → StartedAt rs j p → StartedAt rs k p → j ≡ k
started_once rs j k p one two = elim (cases_lt j k) [
  | inl less ↦ absurd (omega (arith, count-started rs j one.of one.at one.kind, count-le rs (suc j) k (omega arith), one.number, two.number))
  | inr more ↦ elim (cases_lt k j) [
    | inl less ↦ absurd (omega (arith, count-started rs k two.of two.at two.kind, count-le rs (suc k) j (omega arith), one.number, two.number))
    | inr other ↦ omega arith
  ]
]

-- a record's process is there after it
pub numbered_below : (rs : List Record) (k : ℕ) (r : Record) → IsNumbered rs → slice_get rs k ≡ Some r → r.process.0 < process_count (take (suc k) rs)
numbered_below rs k r numbered eq = by_start (is_start r.op) refl
  where
    by_start : (b : Bool) → is_start r.op ≡ b → r.process.0 < process_count (take (suc k) rs)
    by_start true starts = omega (arith, numbered.begins k r eq starts, count-started rs k r eq (start-starts r.op starts))
    by_start false goes = omega (arith, numbered.goes_on k r eq goes, count-more rs k r eq)

-- before the record that starts a process, no record is its own; a fork record isn't the child's own
pub not_own_before : (rs : List Record) (j k p : ℕ) (r : Record) → IsNumbered rs → StartedAt rs k p → j < k → slice_get rs j ≡ Some r → r.process.0 ≢ p
not_own_before rs j k p r numbered one less eq same =
    omega (arith, numbered_below rs j r numbered eq, count-le rs (suc j) k (omega arith), one.number)

-- each number below the count is that of a process which some record starts
later_start : (r : Record) (rs : List Record) (n p : ℕ) → n ≡ cond (is_starting r.op) 1 0 → (k : ℕ) × StartedAt rs k p → (k : ℕ) × StartedAt (r ∷ rs) k (n + p)
later_start r rs n p counts (k, one) =
    (suc k, record { of = one.of; at = one.at; kind = one.kind; number = omega (arith, one.number, process_count-cons r (take k rs)) })

pub start_of : (rs : List Record) (p : ℕ) → p < process_count rs → (k : ℕ) × StartedAt rs k p
start_of [] p below = absurd (omega (arith, nil_count 0, below))
start_of (r ∷ rs) p below = by_start (is_starting r.op) refl p refl below (λ q less. start_of rs q less)
  where
    by_start : (b : Bool) → is_starting r.op ≡ b → (q : ℕ) → q ≡ p → q < process_count (r ∷ rs) → ((q : ℕ) → q < process_count rs → (k : ℕ) × StartedAt rs k q)
        → (k : ℕ) × StartedAt (r ∷ rs) k q
    by_start true starts zero same less rest = (0, record { of = r; at = refl; kind = starts; number = sym (no_count (r ∷ rs)) })
    by_start true starts (suc q) same less rest =
        let one : (let n : ℕ = 1 in n ≡ cond (is_starting r.op) 1 0) = sym (counts_one (is_starting r.op) starts) in
        let next : 1 + q ≡ suc q = omega arith in
        subst (λ (m : ℕ). (k : ℕ) × StartedAt (r ∷ rs) k m) next
        (later_start r rs 1 q one (rest q (omega (arith, process_count-cons r rs, counts_one (is_starting r.op) starts))))
    by_start false fails q same less rest =
        let none : (let n : ℕ = 0 in n ≡ cond (is_starting r.op) 1 0) = ap (λ b. (let n : ℕ = cond b 1 0 in n)) (sym fails) in
        let next : 0 + q ≡ q = omega arith in
        subst (λ (m : ℕ). (k : ℕ) × StartedAt (r ∷ rs) k m) next (later_start r rs 0 q none (rest q (omega (arith, process_count-cons r rs, none))))

-- ---- one record more at the end

pub slice_get-push : {X : Type 0} (xs : List X) (j : ℕ) (x : X) → slice_get (xs ++ x ∷ []) j ≡ cond (eqb j (length xs)) (Some x) (slice_get xs j)
slice_get-push [] zero x = refl
slice_get-push [] (suc j) x = rw eqb-suc-zero refl
slice_get-push (first ∷ xs) zero x = rw eqb-zero-suc refl
slice_get-push (first ∷ xs) (suc j) x = rw eqb-suc-suc (slice_get-push xs j x)

pub started_at-push : (rs : List Record) (r : Record) (k : ℕ)
    → started_at (rs ++ r ∷ []) k ≡ cond (eqb k (length rs)) (cond (is_starting r.op) (Some (process_count rs)) None) (started_at rs k)
unfolding started_at number_if
started_at-push rs r k = elim (cases_eq k (length rs)) [
  | inl same ↦ rw (
    slice_get-push rs k r,
    eq-eqb k (length rs) same,
    same,
    take-append-le (length rs) rs (r ∷ []) (omega arith),
    take_all (length rs) rs (omega arith),
  ) refl
  | inr other ↦ rw (slice_get-push rs k r, ne_eqb k (length rs) other) (kept (slice_get rs k) refl)
]
  where
    kept : (o : Option Record) → slice_get rs k ≡ o → number_if is_starting (rs ++ r ∷ []) k o ≡ number_if is_starting rs k o
    kept None eq = refl
    kept (Some x) eq = ap (λ (taken : List Record). cond (is_starting x.op) (Some (process_count taken)) None)
        (take-append-le k rs (r ∷ []) (let within : k < length rs = slice_get_within rs k x eq in omega arith))

-- ---- parents

pub with_first : {X : Type 0} (b : Bool) (x : X) (more xs last : List X) → more ≡ xs ++ last → cond b (x ∷ more) more ≡ cond b (x ∷ xs) xs ++ last
with_first true x more xs last e = ap (λ ys. x ∷ ys) e
with_first false x more xs last e = e

pub parents-push : (rs : List Record) (r : Record) → parents (rs ++ r ∷ []) ≡ parents rs ++ cond (is_starting r.op) (forked_by r.op r.process ∷ []) []
unfolding parents
parents-push [] r = refl
parents-push (first ∷ rs) r = with_first (is_starting first.op) (forked_by first.op first.process) _ (parents rs) _ (parents-push rs r)

length-first : {X : Type 0} (b : Bool) (x : X) (xs : List X) → length (cond b (x ∷ xs) xs) ≡ cond b 1 0 + length xs
length-first true x xs = omega arith
length-first false x xs = omega arith

pub length-parents : (rs : List Record) → length (parents rs) ≡ process_count rs
unfolding parents process_count
length-parents [] = refl
length-parents (r ∷ rs) = omega (arith, length-first (is_starting r.op) (forked_by r.op r.process) (parents rs), length-parents rs, process_count-cons r rs)

later_parent : (b : Bool) (parent : Option ProcessId) (others : List (Option ProcessId)) (n : ℕ)
    → slice_get (cond b (parent ∷ others) others) (cond b 1 0 + n) ≡ slice_get others n
later_parent true parent others n = ap (λ k. slice_get (parent ∷ others) k) (let next : 1 + n ≡ suc n = omega arith in next)
later_parent false parent others n = ap (λ k. slice_get others k) (let same : 0 + n ≡ n = omega arith in same)

-- the parent of a process is the one that its record tells
pub parent_at : (rs : List Record) (k p : ℕ) (one : StartedAt rs k p) → slice_get (parents rs) p ≡ Some (forked_by one.of.op one.of.process)
unfolding parents
parent_at rs k p one = ap (λ n. slice_get (parents rs) n) one.number ∙ told rs k one.of one.at one.kind
  where
    told : (rs : List Record) (k : ℕ) (r : Record) → slice_get rs k ≡ Some r → is_starting r.op ≡ true
        → slice_get (parents rs) (process_count (take k rs)) ≡ Some (forked_by r.op r.process)
    told [] k r eq starts = cc
    told (first ∷ rs) zero r eq starts = let same : first ≡ r = same_Some first r eq in rw (no_count (first ∷ rs), same, starts) refl
    told (first ∷ rs) (suc k) r eq starts =
        rw (process_count-cons first (take k rs))
        (later_parent (is_starting first.op) (forked_by first.op first.process) (parents rs) (process_count (take k rs)) ∙ told rs k r eq starts)

forked_from : (op : Op) (own parent : ProcessId) → forked_by op own ≡ Some parent → (own ≡ parent) × (is_start op ≡ false)
unfolding forked_by is_start
forked_from (Fork child) own parent is = (cc, refl)
forked_from op own parent is = absurd (cc)

-- and its number is below the process's own
pub parent_below : (rs : List Record) (p : ℕ) (parent : ProcessId) → IsNumbered rs → p < process_count rs → parent_of rs p ≡ Some parent → parent.0 < p
parent_below rs p parent numbered there is =
    let (k, one) = start_of rs p there in
    let forked = forked_from one.of.op one.of.process parent (ap option_flatten (sym (parent_at rs k p one)) ∙ is) in
    omega (arith, numbered.goes_on k one.of one.at forked.1, one.number, ap (λ (p : ProcessId). p.0) forked.0)
