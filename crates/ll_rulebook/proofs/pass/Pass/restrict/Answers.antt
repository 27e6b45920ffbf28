use Rattle.std.proofs.Common.{◌∙◌, sym, refl}
use Rattle.ll_trace.specs.declared.op.Op.TheVariants as calls
use Rattle.ll_semantics.specs.declared.answer.RulesetOutcome.TheVariants.{ByState}
use Rattle.ll_semantics.specs.Effects.{effect}
use Rattle.ll_semantics.specs.RulesetOutcomes.{OutcomeFits, is_on_rulesets, enforced}
use Rattle.ll_rulebook.proofs.Frozen.{extends_same}
use Rattle.ll_rulebook.proofs.Settling.{settles_quiet, settles_frozen}
use Rattle.ll_rulebook.proofs.pass.Pass.restrict.Goals as goal

pub returns-in-None : goal.returns-in-None
unfolding is_on_rulesets enforced effect OutcomeFits
returns-in-None c =
    settles_quiet c.args.process (calls.Restrict c.args.rs) c.args.self.now c.requires.sound _ ByState (λ rulesets s. refl)
    (extends_same _) c.requires.sound.layers
    (λ w agrees. (refl, rw (sym (agrees.held c.args.process c.args.rs) ∙ sym c.in-None.ensures) refl))

pub returns-in_ok-freeze-in-Some : goal.returns-in_ok-freeze-in-Some
unfolding enforced effect
returns-in_ok-freeze-in-Some c =
    settles_frozen c.args.process (calls.Restrict c.args.rs) c.args.self.now c.requires.sound c.freeze.new.self c.in-Some.index _ (λ rulesets s. refl)
    (c.requires.sound.indices c.args.process c.args.rs c.in-Some.index (sym c.in-Some.ensures)) c.in_ok-freeze-in-Some.ensures
    (λ w agrees. rw (sym (agrees.held c.args.process c.args.rs) ∙ sym c.in-Some.ensures) refl)
