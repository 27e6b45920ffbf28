-- The outcome's answer, and the layer of a ruleset.
use Rattle.std.proofs.Common.{subst}
use Rattle.ll_semantics.specs.declared.answer.RulesetOutcome.{RulesetOutcome}
use Rattle.ll_semantics.specs.RulesetOutcomes.{OutcomeFits}
use Rattle.ll_state.proofs.Judging.{Agrees-on_rulesets, frozen_is_there, frozen_judged}
use Rattle.ll_state.proofs.own_state.OwnState.answer_call.Goals as goal

pub returns-in-Answered-clause-answer : goal.returns-in-Answered-clause-answer
unfolding OutcomeFits
returns-in-Answered-clause-answer g c =
    (subst (λ (outcome : RulesetOutcome). OutcomeFits g.ctx c.args.call.now.seen.now outcome) c.in-Answered.is c.requires.1.1).1

pub returns-in-Answered-clause-ok : goal.returns-in-Answered-clause-ok
unfolding OutcomeFits
returns-in-Answered-clause-ok g c =
    Agrees-on_rulesets g.ctx c.args.self.now c.args.call.now.seen.now c.requires.1.0
    (subst (λ (outcome : RulesetOutcome). OutcomeFits g.ctx c.args.call.now.seen.now outcome) c.in-Answered.is c.requires.1.1).0

pub restrict-requires : goal.restrict-requires
unfolding OutcomeFits
restrict-requires g c =
    frozen_is_there g.ctx c.args.call.now.layers.now c.requires.0.same_layers c.args.call.now.seen.now c.in-Frozen.layer
    (subst (λ (outcome : RulesetOutcome). OutcomeFits g.ctx c.args.call.now.seen.now outcome) c.in-Frozen.is c.requires.1.1)

pub returns-in-Frozen : goal.returns-in-Frozen
unfolding OutcomeFits
returns-in-Frozen g c =
    let fits = subst (λ (outcome : RulesetOutcome). OutcomeFits g.ctx c.args.call.now.seen.now outcome) c.in-Frozen.is c.requires.1.1 in
    let judged = frozen_judged g.ctx c.args.call.now.layers.now c.requires.0.same_layers c.args.self.now c.restrict.new.self c.restrict.result c.requires.1.0
    c.args.call.now.seen.now c.in-Frozen.layer c.restrict.ensures fits in
    record { answer = judged.0; ok = judged.1; err = tt }
