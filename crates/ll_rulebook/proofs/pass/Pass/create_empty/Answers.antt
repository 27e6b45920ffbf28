use Rattle.std.proofs.Common.{sym, ◌∙◌, refl}
use Rattle.std.proofs.lemmas.Result.{IfOk-weaker}
use Rattle.ll_rights.specs.Rights.{no_right}
use Rattle.ll_rights.specs.NetRights as network
use Rattle.ll_trace.specs.declared.op.Op.TheVariants as calls
use Rattle.ll_semantics.specs.declared.answer.Answer.TheVariants.{Moot}
use Rattle.ll_semantics.specs.Answers.{answer}
use Rattle.ll_semantics.specs.RulesetOutcomes.{is_on_rulesets}
use Rattle.ll_rulebook.proofs.Settling.{settles_refused}
use Rattle.ll_rulebook.proofs.Calls.{create_empty_creates}
use Rattle.ll_rulebook.proofs.pass.Pass.create_empty.Goals as goal

pub returns-in-Some : goal.returns-in-Some
unfolding is_on_rulesets answer
returns-in-Some c =
    settles_refused c.args.process (calls.CreateEmpty c.args.rs) c.args.self.now c.requires.sound Moot refl (λ is. cc)
    (λ w agrees. sym (rw (sym (agrees.held c.args.process c.args.rs) ∙ sym c.in-Some.ensures) refl))

pub returns-in-None : goal.returns-in-None
returns-in-None c = IfOk-weaker c.hold_created.result _ _
    (λ outcome settles. settles no_right network.no_right _ c.empty.ensures (create_empty_creates c.args.self.now.tree.now c.args.self.now.abi c.args.rs))
    c.hold_created.ensures
