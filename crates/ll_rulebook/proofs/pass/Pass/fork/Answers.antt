use Rattle.std.proofs.Common.{ℕ, ◌+◌, refl, ap}
use Rattle.ll_trace.specs.declared.op.Op.TheVariants as calls
use Rattle.ll_semantics.specs.declared.answer.RulesetOutcome.TheVariants.{ByState}
use Rattle.ll_semantics.specs.Answers.{answer}
use Rattle.ll_semantics.specs.Effects.{effect}
use Rattle.ll_semantics.specs.RulesetOutcomes.{OutcomeFits, is_on_rulesets, enforced}
use Rattle.ll_rulebook.proofs.Settling.{settles_tables}
use Rattle.ll_rulebook.proofs.pass.Pass.fork.Goals as goal

pub returns : goal.returns
unfolding is_on_rulesets enforced answer effect OutcomeFits
returns c = λ child.
    settles_tables c.args.process (calls.Fork child) c.args.self.now c.requires.sound c.fork.new.self _ _ _ ByState c.in_ok-fork.ensures
    (c.requires.sound.indices c.args.process) (λ w agrees. (refl, refl)) (λ w agrees. refl)
    (λ w agrees. (w.processes c.args.process, w.count + 1, w.count, ap (λ (n : ℕ). n + 1) agrees.count, agrees.count, agrees.held c.args.process, refl))
