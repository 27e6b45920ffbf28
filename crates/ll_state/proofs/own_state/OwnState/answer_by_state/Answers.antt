-- Restricting by no ruleset, and what changes nothing.
use Rattle.std.proofs.Common.{◌≡◌, true, rules}
use Rattle.ll_semantics.specs.RulesetOutcomes.{is_on_rulesets}
use Rattle.ll_state.specs.Agreement.{is_still}
use Rattle.ll_state.proofs.Judging.{Agrees-still, unheld_judged}
use Rattle.ll_state.proofs.own_state.OwnState.answer_by_state.Goals as goal

pub returns-in-Restrict : goal.returns-in-Restrict
returns-in-Restrict g c =
    let both =
    unheld_judged g.ctx c.args.call.now.layers.now c.requires.0.same_layers c.args.self.now
    c.restrict.new.self c.restrict.result c.requires.1.0 c.args.call.now.op.now c.in-Restrict.rs c.restrict.ensures
    c.in-Restrict.is c.requires.1.1 in
    (both.0, both.1, tt)

pub returns-in-Start : goal.returns-in-Start
unfolding is_still is_on_rulesets
returns-in-Start g c =
    let still : is_still c.args.call.now.op.now ≡ true = search rules in
    (c.answer.ensures, Agrees-still g.ctx c.args.self.now c.args.call.now.op.now c.requires.1.0 still, tt)
