-- One own record of a case: what it is answered, and what it leaves.
use Rattle.std.proofs.Common.{◌≡◌, ℕ, true, false, Some, refl, sym, ap, ◌∙◌, subst, ◌<◌, take, arith}
use Rattle.std.specs.Prelude.{slice_get, Result, Ok, Err, IfOk, OnOk}
use Rattle.std.specs.declared.alloc.AllocError.{AllocError}
use Rattle.std.proofs.lemmas.Option.{same_Some}
use Rattle.ll_trace.specs.declared.op.Record.{Record}
use Rattle.ll_semantics.specs.declared.answer.Answer.{Answer}
use Rattle.ll_semantics.specs.declared.answer.Answer.TheVariants.{Allowed}
use Rattle.ll_semantics.specs.declared.answer.RulesetOutcome.{RulesetOutcome}
use Rattle.ll_state.specs.declared.own_state.OwnState.{OwnState}
use Rattle.ll_semantics.specs.CallContexts.{answer_to, state_then, world_at, state_after}
use Rattle.ll_state.specs.Agreement.{IsMet}
use Rattle.ll_semantics.specs.RulesetOutcomes.{OutcomeFits}
use Rattle.ll_semantics.specs.States.{State}
use Rattle.ll_semantics.specs.Answers.{answer}
use Rattle.ll_trace.specs.Processes.{is_start, is_fork, process_count, forked_at}
use Rattle.ll_process.specs.Judging.{state_met, state_left, answer_at}
use Rattle.ll_process.specs.Cases.{CaseValue, IsCase, AgreesIn, BeginsAs}
use Rattle.ll_process.specs.Own.{IsOwn, Meets, Leaves, context_at}
use Rattle.ll_semantics.proofs.Steps.{answer-start, state_after-fork}
use Rattle.ll_process.proofs.Walks.{answer_met, left_met, met_at_start, met_going_on}
use Rattle.ll_trace.proofs.Numbers.{StartedAt, ForkedAt, forked_at-is, started_at-is, started_once}
use Rattle.ll_process.proofs.Weighing.{forked, child_state, child_below}

module _ (cv : CaseValue) (index p : ℕ) where
  -- the process of an own record
  pub own_process : (r : Record) → IsOwn cv index p → slice_get cv.records index ≡ Some r → r.process.0 ≡ p
  own_process r own eq = ap (λ (x : Record). x.process.0) (same_Some r own.0 (sym eq ∙ own.1)) ∙ own.2

  -- a start is allowed
  pub start_answer : (r : Record) → slice_get cv.records index ≡ Some r → is_start r.op ≡ true → Allowed ≡ answer_at cv.tree cv.abi cv.records index
  start_answer r eq starts =
      sym (answer-start cv.tree cv.abi (world_at cv.tree cv.abi cv.records index).rulesets r.op (state_met cv.tree cv.abi cv.records index r.process.0) starts)
      ∙ answer_met cv.tree cv.abi cv.records index r eq

  -- and leaves what it meets
  pub start_leaves : (r : Record) (own : OwnState) → slice_get cv.records index ≡ Some r → is_start r.op ≡ true → Meets cv index p own → Leaves cv index p own
  unfolding state_left
  start_leaves r own eq starts meets = subst (λ (s : State). AgreesIn cv own s) (met_at_start cv.tree cv.abi cv.records index p r eq starts) meets

  -- what is answered in the state that the record meets is the fold's answer
  pub met_answer : (r : Record) (given : Answer) → slice_get cv.records index ≡ Some r → r.process.0 ≡ p
      → given ≡ answer cv.tree cv.abi (world_at cv.tree cv.abi cv.records index).rulesets r.op (state_met cv.tree cv.abi cv.records index p)
      → given ≡ answer_at cv.tree cv.abi cv.records index
  met_answer r given eq own is = is
      ∙ ap (λ q. answer cv.tree cv.abi (world_at cv.tree cv.abi cv.records index).rulesets r.op (state_met cv.tree cv.abi cv.records index q)) (sym own)
      ∙ answer_met cv.tree cv.abi cv.records index r eq

  -- and the state after it is what the record leaves
  pub met_leaves : (r : Record) (own : OwnState) → IsCase cv → slice_get cv.records index ≡ Some r → r.process.0 ≡ p
      → AgreesIn cv own (state_after cv.tree cv.abi (world_at cv.tree cv.abi cv.records index).rulesets r.op (state_met cv.tree cv.abi cv.records index p))
      → Leaves cv index p own
  met_leaves r own case eq process agrees =
      subst (λ (s : State). AgreesIn cv own s)
      (ap (λ q. state_after cv.tree cv.abi (world_at cv.tree cv.abi cv.records index).rulesets r.op (state_met cv.tree cv.abi cv.records index q)) (sym process)
      ∙ sym (left_met cv.tree cv.abi cv.records index r case.numbered eq)
      ∙ ap (λ q. state_left cv.tree cv.abi cv.records index q) process)
      agrees

  -- the outcome of a record fits what the record meets
  pub outcome_fits : (r : Record) (outcome : RulesetOutcome) → IsCase cv → slice_get cv.records index ≡ Some r
      → slice_get cv.outcomes index ≡ Some outcome → is_start r.op ≡ false → r.process.0 ≡ p → OutcomeFits (context_at cv index p) r.op outcome
  outcome_fits r outcome case eq says goes process =
      subst (λ (s : State). OutcomeFits
      (record { tree = cv.tree; layers = cv.layers; abi = cv.abi; rulesets = (world_at cv.tree cv.abi cv.records index).rulesets; state = s }) r.op outcome)
      (sym (met_going_on cv.tree cv.abi cv.records index p r eq goes ∙ ap (λ q. (world_at cv.tree cv.abi cv.records index).processes q) (sym process)))
      (case.settled.fits index r outcome eq says)

  pub is_met : IsCase cv → IsMet (context_at cv index p) cv.tree cv.layers
  is_met case = record { same_tree = refl; same_layers = refl; inside = case.settled.inside }

  -- the same of a result
  pub met_answers : (r : Record) (result : Result Answer AllocError) → slice_get cv.records index ≡ Some r → r.process.0 ≡ p
      → IfOk result (λ given. given ≡ answer_to (context_at cv index p) r.op) → IfOk result (λ given. given ≡ answer_at cv.tree cv.abi cv.records index)
  unfolding answer_to
  met_answers r (Ok given) eq own is = met_answer r given eq own is
  met_answers r (Err e) eq own is = tt

  pub met_leaving : (r : Record) (own : OwnState) (result : Result Answer AllocError) → IsCase cv → slice_get cv.records index ≡ Some r → r.process.0 ≡ p
      → OnOk result (AgreesIn cv own (state_then (context_at cv index p) r.op)) → OnOk result (Leaves cv index p own)
  unfolding state_then
  met_leaving r own (Ok given) case eq process agrees = met_leaves r own case eq process agrees
  met_leaving r own (Err e) case eq process agrees = tt

-- ---- the job of a forked child: it begins with what its parent has after the fork record

pub child_there : (cv : CaseValue) (index child : ℕ) → Some child ≡ forked_at cv.records index → child < process_count cv.records
child_there cv index child is =
    let one : ForkedAt cv.records index child = forked_at-is cv.records index child (sym is) in
    omega (arith, one.number, child_below cv.records index one.of one.at one.kind)

-- a fork leaves its process what it gives to the child
left_alike : (cv : CaseValue) (index p child : ℕ) (r : Record) → IsCase cv → slice_get cv.records index ≡ Some r → is_fork r.op ≡ true → r.process.0 ≡ p
    → child ≡ process_count (take index cv.records) → state_left cv.tree cv.abi cv.records index p ≡ state_left cv.tree cv.abi cv.records index child
left_alike cv index p child r case eq forks own number =
    ap (λ q. state_left cv.tree cv.abi cv.records index q) (sym own)
    ∙ left_met cv.tree cv.abi cv.records index r case.numbered eq
    ∙ state_after-fork cv.tree cv.abi (world_at cv.tree cv.abi cv.records index).rulesets r.op (state_met cv.tree cv.abi cv.records index r.process.0) forks
    ∙ sym (child_state cv.tree cv.abi cv.records index r eq forks)
    ∙ ap (λ q. state_left cv.tree cv.abi cv.records index q) (sym number)

pub child_begins : (cv : CaseValue) (index p child : ℕ) (own : OwnState) → IsCase cv → IsOwn cv index p → Some child ≡ forked_at cv.records index
    → AgreesIn cv own (state_left cv.tree cv.abi cv.records index p) → BeginsAs cv child own
child_begins cv index p child own case mine is agrees k starts =
    let one : ForkedAt cv.records index child = forked_at-is cv.records index child (sym is) in
    let here : StartedAt cv.records index child =
    subst (λ (q : ℕ). StartedAt cv.records index q) (sym one.number) (forked cv.records index one.of one.at one.kind) in
    let same : index ≡ k = started_once cv.records index k child here (started_at-is cv.records k child starts) in
    subst (λ (i : ℕ). AgreesIn cv own (state_left cv.tree cv.abi cv.records i child)) same
    (subst (λ (s : State). AgreesIn cv own s)
    (left_alike cv index p child one.of case one.at one.kind (own_process cv index p one.of mine one.at) one.number) agrees)
