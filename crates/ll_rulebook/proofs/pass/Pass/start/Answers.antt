use Rattle.std.proofs.Common.{ℕ, ◌+◌, refl, ap}
use Rattle.ll_trace.specs.declared.op.Op.TheVariants as calls
use Rattle.ll_semantics.specs.declared.answer.RulesetOutcome.TheVariants.{ByState}
use Rattle.ll_semantics.specs.States.{fresh}
use Rattle.ll_semantics.specs.Answers.{answer}
use Rattle.ll_semantics.specs.Effects.{effect}
use Rattle.ll_semantics.specs.RulesetOutcomes.{OutcomeFits, is_on_rulesets, enforced}
use Rattle.ll_rulebook.proofs.Settling.{settles_tables}
use Rattle.ll_rulebook.proofs.pass.Pass.start.Goals as goal

pub returns : goal.returns
unfolding is_on_rulesets enforced answer effect OutcomeFits fresh
returns c = λ process nnp admin.
    settles_tables process (calls.Start nnp admin) c.args.self.now c.requires c.start.new.self _ _ _ ByState c.in_ok-start.ensures (λ q index is. cc)
    (λ w agrees. (refl, refl)) (λ w agrees. refl)
    (λ w agrees. (fresh nnp admin, w.count + 1, w.count, ap (λ (n : ℕ). n + 1) agrees.count, agrees.count, λ q. refl, refl))
