-- Walking over a process's own records meets the states of the fold.
use Rattle.std.proofs.Common.{◌≡◌, ◌≢◌, ℕ, zero, suc, ◌+◌, ◌-◌, ◌<◌, ◌≤◌, true, false, List, length, take, Some, refl, sym, ap, ◌∙◌, inl, inr, arith, add-one}
use Rattle.std.specs.Prelude.{slice_get, unwrap_or}
use Rattle.std.proofs.lemmas.Bool.{cases_Bool, cases_lt}
use Rattle.std.proofs.lemmas.Option.{same_Some, slice_get_within}
use Rattle.ll_rights.specs.declared.abi.Abi.{Abi}
use Rattle.ll_tree.specs.Trees.{Entry}
use Rattle.ll_trace.specs.declared.op.Record.{Record}
use Rattle.ll_semantics.specs.declared.answer.Answer.TheVariants.{Moot}
use Rattle.ll_semantics.specs.Answers.{answer}
use Rattle.ll_semantics.specs.Worlds.{answer_in, judged}
use Rattle.ll_semantics.specs.CallContexts.{world_at, state_after}
use Rattle.ll_trace.specs.Processes.{is_start, process_count, own_records, IsNumbered}
use Rattle.ll_process.specs.Judging.{index_met, state_met, state_left, answer_at}
use Rattle.ll_semantics.proofs.Steps.{world_at-more, judged-at, step-other, step-own, count-world_at, answer-start, state_after-start}
use Rattle.ll_trace.proofs.Numbers.{count-le, count-started, StartedAt, numbered_below, not_own_before}
use Rattle.ll_trace.proofs.OwnRecords.{stands_at, own_record, own_rising, first_own, next_own}

-- ---- while no record is its own, a process stays as it is

module _ (tree : List Entry) (abi : Abi) (records : List Record) where
  unchanged : (b m p : ℕ) → b + m ≤ length records → p < process_count (take b records)
      → ((n : ℕ) (r : Record) → b ≤ n → n < b + m → slice_get records n ≡ Some r → r.process.0 ≢ p)
      → (world_at tree abi records (b + m)).processes p ≡ (world_at tree abi records b).processes p
  unchanged b zero p within there none = (let same : b + 0 ≡ b = omega arith in ap (λ n. (world_at tree abi records n).processes p) same)
  unchanged b (suc m) p within there none =
      let (r, eq) = stands_at records (b + m) (omega arith) in
      let next : b + suc m ≡ b + m + 1 = omega arith in
      let older : p < (world_at tree abi records (b + m)).count =
      omega (arith, count-world_at tree abi records (b + m), count-le records b (b + m) (omega arith)) in
      ap (λ n. (world_at tree abi records n).processes p) next
      ∙ ap (λ w. w.processes p) (world_at-more tree abi records (b + m) r eq)
      ∙ step-other tree abi (world_at tree abi records (b + m)) r.process.0 r.op p (λ same. none (b + m) r (omega arith) (omega arith) eq (sym same))
      (λ last. omega (arith, older, last))
      ∙ unchanged b m p (omega arith) there (λ n x from less. none n x from (omega arith))

-- ---- what an own record meets

pub met_at_start : (tree : List Entry) (abi : Abi) (records : List Record) (i p : ℕ) (r : Record) → slice_get records i ≡ Some r → is_start r.op ≡ true
    → state_met tree abi records i p ≡ (world_at tree abi records (i + 1)).processes p
unfolding state_met
met_at_start tree abi records i p r eq starts =
    let after : index_met i (slice_get records i) ≡ i + 1 = rw (eq, starts) refl in
    ap (λ (n : ℕ). (world_at tree abi records n).processes p) after

pub met_going_on : (tree : List Entry) (abi : Abi) (records : List Record) (i p : ℕ) (r : Record) → slice_get records i ≡ Some r → is_start r.op ≡ false
    → state_met tree abi records i p ≡ (world_at tree abi records i).processes p
unfolding state_met
met_going_on tree abi records i p r eq goes =
    let before : index_met i (slice_get records i) ≡ i = rw (eq, goes) refl in
    ap (λ (n : ℕ). (world_at tree abi records n).processes p) before

-- the answer of the fold is that of the state which the record meets
pub answer_met : (tree : List Entry) (abi : Abi) (records : List Record) (i : ℕ) (r : Record) → slice_get records i ≡ Some r
    → answer tree abi (world_at tree abi records i).rulesets r.op (state_met tree abi records i r.process.0) ≡ answer_at tree abi records i
unfolding answer_at answer_in
answer_met tree abi records i r eq =
    let fold : slice_get (judged tree abi records) i ≡ Some
    (answer tree abi (world_at tree abi records i).rulesets r.op ((world_at tree abi records i).processes r.process.0)) = judged-at tree abi records i r eq in
    elim (cases_Bool (is_start r.op)) [
      | inl starts ↦
          answer-start tree abi (world_at tree abi records i).rulesets r.op (state_met tree abi records i r.process.0) starts
          ∙ sym (ap (λ o. unwrap_or o Moot) fold
          ∙ answer-start tree abi (world_at tree abi records i).rulesets r.op ((world_at tree abi records i).processes r.process.0) starts)
      | inr goes ↦
          ap (λ s. answer tree abi (world_at tree abi records i).rulesets r.op s) (met_going_on tree abi records i r.process.0 r eq goes)
          ∙ sym (ap (λ o. unwrap_or o Moot) fold)
    ]

-- and the state after it follows from the one that it meets
pub left_met : (tree : List Entry) (abi : Abi) (records : List Record) (i : ℕ) (r : Record) → IsNumbered records → slice_get records i ≡ Some r
    → state_left tree abi records i r.process.0 ≡ state_after tree abi (world_at tree abi records i).rulesets r.op (state_met tree abi records i r.process.0)
unfolding state_left
left_met tree abi records i r numbered eq = elim (cases_Bool (is_start r.op)) [
  | inl starts ↦
      sym (state_after-start tree abi (world_at tree abi records i).rulesets r.op (state_met tree abi records i r.process.0) starts
      ∙ met_at_start tree abi records i r.process.0 r eq starts)
  | inr goes ↦
      (let there : r.process.0 < (world_at tree abi records i).count = omega (arith, count-world_at tree abi records i, numbered.goes_on i r eq goes) in
      ap (λ w. w.processes r.process.0) (world_at-more tree abi records i r eq)
      ∙ step-own tree abi (world_at tree abi records i) r.process.0 r.op (λ last. omega (arith, there, last))
      ∙ ap (λ s. state_after tree abi (world_at tree abi records i).rulesets r.op s) (sym (met_going_on tree abi records i r.process.0 r eq goes)))
]

-- ---- from one own record to the next

module _ (tree : List Entry) (abi : Abi) (records : List Record) (p : ℕ) where
  -- an own record meets the state from which no own record separates it
  met_later : (b i : ℕ) (r : Record) → IsNumbered records → slice_get records i ≡ Some r → r.process.0 ≡ p → p < process_count (take b records) → b ≤ i
      → ((n : ℕ) (x : Record) → b ≤ n → n < i → slice_get records n ≡ Some x → x.process.0 ≢ p)
      → state_met tree abi records i p ≡ (world_at tree abi records b).processes p
  met_later b i r numbered eq own there after none =
      let goes : is_start r.op ≡ false = elim (cases_Bool (is_start r.op)) [
        | inl starts ↦ absurd (omega (arith, numbered.begins i r eq starts, count-le records b i after))
        | inr goes ↦ goes
      ] in
      let apart : b + (i - b) ≡ i = omega (arith, after) in
      met_going_on tree abi records i p r eq goes
      ∙ ap (λ n. (world_at tree abi records n).processes p) (sym apart)
      ∙ unchanged tree abi records b (i - b) p (omega (arith, apart, slice_get_within records i r eq)) there
      (λ n x from less. none n x from (omega (arith, apart)))

  -- a record meets the state that the own record before it leaves
  pub met_next : (j i k : ℕ) → IsNumbered records → slice_get (own_records records p) j ≡ Some i → slice_get (own_records records p) (suc j) ≡ Some k
      → state_met tree abi records k p ≡ state_left tree abi records i p
  unfolding state_left
  met_next j i k numbered here next =
      let (r, eq, own) = own_record records p j i here in
      let (x, there, mine) = own_record records p (suc j) k next in
      let below : p < process_count (take (i + 1) records) = rw (add-one i) (omega (arith, numbered_below records i r numbered eq, own)) in
      met_later (i + 1) k x numbered there mine below (omega (arith, own_rising records p j (suc j) i k here next (omega arith)))
      (λ n y from less found same. omega (arith, next_own records p j i k n y here next found same (omega arith)))

  -- the first own record meets the state that the process begins with
  pub met_first : (k i : ℕ) → IsNumbered records → StartedAt records k p → slice_get (own_records records p) 0 ≡ Some i
      → state_met tree abi records i p ≡ state_left tree abi records k p
  unfolding state_left
  met_first k i numbered one first =
      let (r, eq, own) = own_record records p 0 i first in
      let from : k ≤ i = elim (cases_lt i k) [
        | inl before ↦ absurd (not_own_before records i k p r numbered one before eq own)
        | inr after ↦ after
      ] in
      elim (cases_Bool (is_start one.of.op)) [
        | inl starts ↦
            let same : i ≡ k = omega (arith, first_own records p i k one.of first one.at (numbered.begins k one.of one.at starts ∙ sym one.number)) in
            ap (λ n. state_met tree abi records n p) same ∙ met_at_start tree abi records k p one.of one.at starts
        | inr goes ↦
            let past : k + 1 ≤ i = elim (cases_lt k i) [
              | inl less ↦ omega arith
              | inr other ↦
                  (let here : i ≡ k = omega arith in
                  let is : r ≡ one.of = same_Some r one.of (sym eq ∙ ap (slice_get records) here ∙ one.at) in
                  absurd (omega (arith, numbered.goes_on k one.of one.at goes, one.number, own, ap (λ (x : Record). x.process.0) is)))
            ] in
            let there : p < process_count (take (k + 1) records) = rw (add-one k) (omega (arith, count-started records k one.of one.at one.kind, one.number)) in
            met_later (k + 1) i r numbered eq own there past (λ n x from less found same. omega (arith, first_own records p i n x first found same))
      ]
