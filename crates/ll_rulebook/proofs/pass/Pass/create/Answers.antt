use Rattle.std.proofs.Common.{◌∙◌, refl, sym}
use Rattle.std.proofs.lemmas.Result.{IfOk-weaker}
use Rattle.ll_trace.specs.declared.op.Op.TheVariants as calls
use Rattle.ll_semantics.specs.declared.answer.Answer.TheVariants.{Moot}
use Rattle.ll_semantics.specs.Answers.{answer, create_answer, fails}
use Rattle.ll_semantics.specs.RulesetOutcomes.{is_on_rulesets}
use Rattle.ll_rulebook.proofs.Settling.{settles_refused}
use Rattle.ll_rulebook.proofs.Calls.{create_creates}
use Rattle.ll_rulebook.proofs.pass.Pass.create.Goals as goal

pub returns-in-Some : goal.returns-in-Some
unfolding is_on_rulesets answer create_answer
returns-in-Some c =
    settles_refused c.args.process (calls.Create c.args.rs c.args.fs c.args.net) c.args.self.now c.requires.sound Moot refl (λ is. cc)
    (λ w agrees. sym (rw (sym (agrees.held c.args.process c.args.rs) ∙ sym c.in-Some.ensures) refl))

pub returns-in-Err : goal.returns-in-Err
unfolding is_on_rulesets answer create_answer
returns-in-Err c = rw c.failed.ensures
    (settles_refused c.args.process (calls.Create c.args.rs c.args.fs c.args.net) c.args.self.now c.requires.sound (fails c.in-Err.error) refl (λ is. cc)
    (λ w agrees. sym (rw (sym (agrees.held c.args.process c.args.rs) ∙ sym c.in_default.ensures, sym c.in-Err.ensures.fault) refl)))

pub returns-in-Ok : goal.returns-in-Ok
returns-in-Ok c = IfOk-weaker c.hold_created.result _ _
    (λ outcome settles. settles c.args.fs c.args.net _ c.in-Ok.ensures.made
    (create_creates c.args.self.now.tree.now c.args.self.now.abi c.args.rs c.args.fs c.args.net (sym c.in-Ok.ensures.fault))) c.hold_created.ensures
