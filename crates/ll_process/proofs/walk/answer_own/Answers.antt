-- A start is answered here, any other record in the state that it meets.
use Rattle.std.proofs.Common.{◌≡◌, subst}
use Rattle.std.specs.Prelude.{IfOk, OnOk}
use Rattle.std.proofs.lemmas.Option.{slice_get_within}
use Rattle.ll_trace.specs.SeenRecords.{record_of}
use Rattle.ll_trace.proofs.Numbers.{is_start-from}
use Rattle.ll_semantics.specs.CallContexts.{CallContext, answer_to, state_then}
use Rattle.ll_semantics.specs.RulesetOutcomes.{OutcomeFits}
use Rattle.ll_state.specs.Agreement.{Agrees, IsMet}
use Rattle.ll_process.proofs.OwnSteps.{own_process, start_answer, start_leaves, met_answers, met_leaving, outcome_fits, is_met}
use Rattle.ll_process.specs.Own.{context_at}
use Rattle.ll_process.proofs.walk.answer_own.Goals as goal

pub record-record-requires : goal.record-record-requires
record-record-requires g c = slice_get_within c.args.case.now.records c.args.index c.requires.1.0.0 c.requires.1.0.1

pub outcome_at-outcome-requires : goal.outcome_at-outcome-requires
outcome_at-outcome-requires g c = slice_get_within c.args.case.now.records c.args.index c.requires.1.0.0 c.requires.1.0.1

pub invariant_of-call : goal.invariant_of-call
invariant_of-call g c = record {
  known = rw (c.tree.ensures, c.layers.ensures, c.grants.ensures.grants) c.grants.ensures.case.granted;
  first = rw c.tree.ensures (c.requires.1.1.0 (record_of c.record-record.result) c.record-record.ensures.at);
}

pub answer_call-requires : goal.answer_call-requires
answer_call-requires g c =
    let case = c.args.case.now in
    let r = record_of c.record-record.result in
    let met : IsMet g.ctx c.tree.result.now c.layers.result.now =
    rw (c.requires.0, c.tree.ensures, c.layers.ensures) (is_met case c.args.index c.args.process.0 c.trace.ensures.case) in
    let agrees : Agrees g.ctx.tree g.ctx.layers c.args.own.now g.ctx.state = rw c.requires.0 c.requires.1.1.1 in
    let fits : OutcomeFits g.ctx c.record-record.result.op c.outcome_at-outcome.result =
    rw c.requires.0 (c.outcome_at-outcome.ensures (context_at case c.args.index c.args.process.0) (λ outcome says.
    outcome_fits case c.args.index c.args.process.0 r outcome c.trace.ensures.case c.record-record.ensures.at says
    (c.in-None.ensures.none r (rw c.trace.ensures.records c.record-record.ensures.at))
    (own_process case c.args.index c.args.process.0 r c.requires.1.0 c.record-record.ensures.at))) in
    (met, (agrees, fits))

pub returns-in-Some-clause-answer : goal.returns-in-Some-clause-answer
returns-in-Some-clause-answer g c =
    start_answer c.args.case.now c.args.index c.args.process.0 c.requires.1.0.0 c.requires.1.0.1
    (is_start-from _ _ _ (c.in-Some.ensures.some c.requires.1.0.0 (rw c.trace.ensures.records c.requires.1.0.1)))

pub returns-in-Some-clause-leaves : goal.returns-in-Some-clause-leaves
returns-in-Some-clause-leaves g c =
    start_leaves c.args.case.now c.args.index c.args.process.0 c.requires.1.0.0 c.args.own.now c.requires.1.0.1
    (is_start-from _ _ _ (c.in-Some.ensures.some c.requires.1.0.0 (rw c.trace.ensures.records c.requires.1.0.1))) c.requires.1.1.1

pub returns-in-None-clause-answer : goal.returns-in-None-clause-answer
returns-in-None-clause-answer g c =
    let r = record_of c.record-record.result in
    met_answers c.args.case.now c.args.index c.args.process.0 r c.answer_call.result c.record-record.ensures.at
    (own_process c.args.case.now c.args.index c.args.process.0 r c.requires.1.0 c.record-record.ensures.at)
    (subst (λ (ctx : CallContext). IfOk c.answer_call.result (λ given. given ≡ answer_to ctx r.op)) c.requires.0 c.answer_call.ensures.answer)

pub returns-in-None-clause-leaves : goal.returns-in-None-clause-leaves
returns-in-None-clause-leaves g c =
    let r = record_of c.record-record.result in
    met_leaving c.args.case.now c.args.index c.args.process.0 r c.answer_call.new.self c.answer_call.result
    c.trace.ensures.case c.record-record.ensures.at
    (own_process c.args.case.now c.args.index c.args.process.0 r c.requires.1.0 c.record-record.ensures.at)
    (subst (λ (ctx : CallContext). OnOk c.answer_call.result (Agrees ctx.tree ctx.layers c.answer_call.new.self (state_then ctx r.op)))
    c.requires.0 c.answer_call.ensures.ok)
