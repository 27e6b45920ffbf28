-- A forked child begins with the state of its parent, whose number is below its own; all children of a process together
-- weigh less than it does.
use Rattle.std.proofs.Common.{◌≡◌, ℕ, suc, ◌<◌, true, List, take, Some, refl, sym, ap, ◌∙◌, arith, ◌⊎◌, zero, ◌+◌, ◌-◌, ◌≤◌, ◌^◌, [], ◌∷◌, Option, subst, inl}
use Rattle.std.proofs.Common.{inr, add-one}
use Rattle.std.specs.Prelude.{slice_get, sum_by, ◌==◌}
use Rattle.ll_rights.specs.declared.abi.Abi.{Abi}
use Rattle.ll_tree.specs.Trees.{Entry}
use Rattle.ll_trace.specs.declared.op.Record.{Record}
use Rattle.ll_semantics.specs.Worlds.{step}
use Rattle.ll_semantics.specs.CallContexts.{world_at}
use Rattle.ll_trace.specs.Processes.{is_fork, process_count, IsNumbered, forked_at, own_from, own_records, children}
use Rattle.ll_process.specs.Judging.{state_met, state_left}
use Rattle.ll_semantics.proofs.Steps.{world_at-more, step-new, count-world_at, started-fork}
use Rattle.ll_trace.proofs.Numbers.{fork-starts, fork_no_start, count-all, count-started, StartedAt, count-le, forked_at-from, forked_at-none}
use Rattle.ll_process.proofs.Walks.{met_going_on}
use Rattle.std.specs.List.{filter_map, cons_option}
use Rattle.std.proofs.Math.Nat.{pow-le-pow_right, two-pow-succ}
use Rattle.std.proofs.lemmas.Nat.{pow_pos}
use Rattle.std.proofs.lemmas.Bool.{cases_Bool, eqb-true, eqb-false}
use Rattle.std.proofs.lemmas.List.Sums.{sum_by-cons}
use Rattle.ll_process.specs.Jobs.{weight, weight_of}
use Rattle.ll_trace.proofs.OwnRecords.{own_from-yes, own_from-no, own_from-nil}

-- the child that a fork record starts
pub forked : (records : List Record) (i : ℕ) (r : Record) → slice_get records i ≡ Some r → is_fork r.op ≡ true
    → StartedAt records i (process_count (take i records))
forked records i r eq forks = record { of = r; at = eq; kind = fork-starts r.op forks; number = refl }

pub child_state : (tree : List Entry) (abi : Abi) (records : List Record) (i : ℕ) (r : Record) → slice_get records i ≡ Some r → is_fork r.op ≡ true
    → state_left tree abi records i (process_count (take i records)) ≡ state_met tree abi records i r.process.0
unfolding state_left
child_state tree abi records i r eq forks =
    ap (λ w. w.processes (process_count (take i records))) (world_at-more tree abi records i r eq)
    ∙ ap (λ p. (step tree abi (world_at tree abi records i) r.process.0 r.op).processes p) (sym (count-world_at tree abi records i))
    ∙ step-new tree abi (world_at tree abi records i) r.process.0 r.op ((world_at tree abi records i).processes r.process.0)
    (started-fork tree (world_at tree abi records i).rulesets r.op ((world_at tree abi records i).processes r.process.0) forks)
    ∙ sym (met_going_on tree abi records i r.process.0 r eq (fork_no_start r.op forks))

pub child_above : (records : List Record) (i : ℕ) (r : Record) → IsNumbered records → slice_get records i ≡ Some r → is_fork r.op ≡ true
    → r.process.0 < process_count (take i records)
child_above records i r numbered eq forks = numbered.goes_on i r eq (fork_no_start r.op forks)

pub child_below : (records : List Record) (i : ℕ) (r : Record) → slice_get records i ≡ Some r → is_fork r.op ≡ true
    → process_count (take i records) < process_count records
child_below records i r eq forks = omega (arith, count-started records i r eq (fork-starts r.op forks), count-all records (suc i))

-- a power above the weights of a process's children from an index on
abbrev Covers : List Record → ℕ → ℕ → ℕ → ℕ → Type 0
Covers records b p n e = (n ≤ e + p) ⊎ (n + 1 ≤ e + process_count (take b records))

-- records from an index on
abbrev FromIndex : List Record → ℕ → List Record → Type 0
FromIndex records b rs = (k : ℕ) → slice_get rs k ≡ slice_get records (b + k)

at_index : (records : List Record) (b : ℕ) (r : Record) (rs : List Record) → FromIndex records b (r ∷ rs) → slice_get records b ≡ Some r
at_index records b r rs from = (let same : b ≡ b + 0 = omega arith in ap (λ n. slice_get records n) same) ∙ sym (from 0)

next_index : (records : List Record) (b : ℕ) (r : Record) (rs : List Record) → FromIndex records b (r ∷ rs) → FromIndex records (b + 1) rs
next_index records b r rs from k = from (suc k) ∙ (let same : b + suc k ≡ b + 1 + k = omega arith in ap (λ n. slice_get records n) same)

covers_next : (records : List Record) (b p n e : ℕ) → Covers records b p n e → Covers records (b + 1) p n e
covers_next records b p n e (inl by_process) = inl by_process
covers_next records b p n e (inr by_count) = inr (omega (arith, count-le records b (b + 1) (omega arith)))

-- at a fork, the child takes one half and what follows the other
covers_fork : (records : List Record) (b p n e : ℕ) → p < process_count (take b records) → Covers records b p n e → n + 1 ≤ e + process_count (take b records)
covers_fork records b p n e above (inl by_process) = omega arith
covers_fork records b p n e above (inr by_count) = by_count

halves : (n c e s : ℕ) → n + 1 ≤ suc e + c → s < 2 ^ e → 2 ^ (n - c) + s < 2 ^ suc e
halves n c e s covered less =
    let part : 2 ^ (n - c) ≤ 2 ^ e = pow-le-pow_right {n = 2} (omega arith) {i = n - c} {j = e} (omega arith) in
    omega (arith, two-pow-succ e)

child_and_rest : (n c e s : ℕ) → c < n → n + 1 ≤ e + c → ((d : ℕ) → n + 1 ≤ d + (c + 1) → s < 2 ^ d) → 2 ^ (n - c) + s < 2 ^ e
child_and_rest n c zero s below covered less = absurd (omega arith)
child_and_rest n c (suc e) s below covered less = halves n c e s covered (less e (omega arith))

pub children_weigh : (records rs : List Record) (b p n e : ℕ) → IsNumbered records → FromIndex records b rs → process_count records ≤ n → Covers records b p n e
    → sum_by (weight n) (filter_map (forked_at records) (own_from p b rs)) < 2 ^ e
children_weigh records [] b p n e numbered from all covers =
    subst (λ (xs : List ℕ). sum_by (weight n) (filter_map (forked_at records) xs) < 2 ^ e) (sym (own_from-nil p b)) (pow_pos e)
children_weigh records (r ∷ rs) b p n e numbered from all covers =
    let eq : slice_get records b ≡ Some r = at_index records b r rs from in
    let rest : (d : ℕ) → Covers records (b + 1) p n d → sum_by (weight n) (filter_map (forked_at records) (own_from p (b + 1) rs)) < 2 ^ d =
    λ d covered. children_weigh records rs (b + 1) p n d numbered (next_index records b r rs from) all covered in
    elim (cases_Bool (r.process.0 == p)) [
      | inr other ↦
          subst (λ (xs : List ℕ). sum_by (weight n) (filter_map (forked_at records) xs) < 2 ^ e) (sym (own_from-no p b r rs (eqb-false r.process.0 p other)))
          (rest e (covers_next records b p n e covers))
      | inl own ↦
          subst (λ (xs : List ℕ). sum_by (weight n) (filter_map (forked_at records) xs) < 2 ^ e) (sym (own_from-yes p b r rs (eqb-true r.process.0 p own)))
          (elim (cases_Bool (is_fork r.op)) [
            | inr goes ↦
                subst (λ (o : Option ℕ). sum_by (weight n) (cons_option o (filter_map (forked_at records) (own_from p (b + 1) rs))) < 2 ^ e)
                (sym (forked_at-none records b r eq goes)) (rest e (covers_next records b p n e covers))
            | inl forks ↦
                (let c : ℕ = process_count (take b records) in
                let above : p < process_count (take b records) = omega (arith, child_above records b r numbered eq forks, eqb-true r.process.0 p own) in
                let more : process_count (take (b + 1) records) ≡ process_count (take b records) + 1 =
                rw (add-one b) (count-started records b r eq (fork-starts r.op forks)) in
                let here : 2 ^ (n - process_count (take b records)) + sum_by (weight n) (filter_map (forked_at records) (own_from p (b + 1) rs)) < 2 ^ e =
                child_and_rest n (process_count (take b records)) e _ (omega (arith, child_below records b r eq forks))
                (covers_fork records b p n e above covers) (λ d covered. rest d (inr (omega (arith, more)))) in
                subst (λ (o : Option ℕ). sum_by (weight n) (cons_option o (filter_map (forked_at records) (own_from p (b + 1) rs))) < 2 ^ e)
                (sym (forked_at-from records b r eq forks))
                (subst (λ (m : ℕ). m < 2 ^ e)
                (sym (sum_by-cons (weight n) (process_count (take b records)) (filter_map (forked_at records) (own_from p (b + 1) rs)))) here))
          ])
    ]

pub weight_of-children : (records : List Record) (p n : ℕ) → IsNumbered records → process_count records ≤ n → weight_of n (children records p) < weight n p
unfolding weight_of children own_records
weight_of-children records p n numbered all =
    children_weigh records records 0 p n (n - p) numbered
    (λ k. (let same : k ≡ 0 + k = omega arith in ap (λ i. slice_get records i) same)) all (inl (omega arith))
