-- A rule that is left out changes nothing.
use Rattle.std.proofs.Common.{◌≡◌, List, None, refl, rules, subst}
use Rattle.ll_trace.specs.declared.op.Op.{Op}
use Rattle.ll_trace.specs.declared.op.Op.TheVariants.{LeaveOutPath, LeaveOutPort}
use Rattle.ll_trace.specs.Borrowed.{meant}
use Rattle.ll_semantics.specs.declared.answer.RulesetOutcome.TheVariants.{ByState}
use Rattle.ll_semantics.specs.States.{State, Layer}
use Rattle.ll_semantics.specs.Effects.{effect}
use Rattle.ll_semantics.specs.RulesetOutcomes.{OutcomeFits, is_on_rulesets, enforced}
use Rattle.ll_rulebook.specs.Passes.{Settles}
use Rattle.ll_rulebook.proofs.Frozen.{extends_same}
use Rattle.ll_rulebook.proofs.Settling.{IsQuiet, settles_quiet}
use Rattle.ll_rulebook.proofs.pass.Pass.settle.Goals as goal

pub returns-in-LeaveOutPath : goal.returns-in-LeaveOutPath
unfolding meant is_on_rulesets enforced effect OutcomeFits
returns-in-LeaveOutPath c =
    let path = c.in-LeaveOutPath.path.now in
    let quiet : (rulesets : List Layer) (s : State) → IsQuiet s (effect c.args.self.now.tree.now rulesets (LeaveOutPath path) s) = search rules in
    let unforced : (rulesets : List Layer) (s : State) → enforced rulesets (LeaveOutPath path) s ≡ None = search rules in
    subst (λ (op : Op). Settles c.args.process op c.args.self.now c.args.self.now ByState) c.in-LeaveOutPath.ensures.call
    (settles_quiet c.args.process (LeaveOutPath path) c.args.self.now c.requires.sound _ ByState quiet (extends_same _) c.requires.sound.layers
    (λ w agrees. (refl, unforced w.rulesets (w.processes c.args.process))))

pub returns-in-LeaveOutPort : goal.returns-in-LeaveOutPort
unfolding meant is_on_rulesets enforced effect OutcomeFits
returns-in-LeaveOutPort c =
    let quiet : (rulesets : List Layer) (s : State) → IsQuiet s (effect c.args.self.now.tree.now rulesets LeaveOutPort s) = search rules in
    let unforced : (rulesets : List Layer) (s : State) → enforced rulesets LeaveOutPort s ≡ None = search rules in
    subst (λ (op : Op). Settles c.args.process op c.args.self.now c.args.self.now ByState) c.in-LeaveOutPort.ensures.call
    (settles_quiet c.args.process LeaveOutPort c.args.self.now c.requires.sound _ ByState quiet (extends_same _) c.requires.sound.layers
    (λ w agrees. (refl, unforced w.rulesets (w.processes c.args.process))))
