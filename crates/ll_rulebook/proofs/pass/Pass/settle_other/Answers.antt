use Rattle.std.proofs.Common.{◌≡◌, List, false, None, rules}
use Rattle.std.proofs.lemmas.Result.{IfOk-weaker}
use Rattle.ll_trace.specs.Entries.{is_start}
use Rattle.ll_semantics.specs.declared.answer.RulesetOutcome.TheVariants.{ByState}
use Rattle.ll_semantics.specs.States.{State, Layer}
use Rattle.ll_semantics.specs.Effects.{effect}
use Rattle.ll_semantics.specs.RulesetOutcomes.{OutcomeFits, is_on_rulesets, enforced}
use Rattle.ll_rulebook.proofs.Frozen.{extends_same}
use Rattle.ll_rulebook.proofs.Settling.{IsQuiet, settles_quiet}
use Rattle.ll_rulebook.proofs.pass.Pass.settle_other.Goals as goal

pub returns-in-Start : goal.returns-in-Start
returns-in-Start c =
    rw c.in-Start.is (IfOk-weaker c.start.result _ _ (λ outcome settles. settles c.args.process c.in-Start.nnp c.in-Start.admin) c.start.ensures)

pub returns-in-Fork : goal.returns-in-Fork
returns-in-Fork c = rw c.in-Fork.is (IfOk-weaker c.fork.result _ _ (λ outcome settles. settles c.in-Fork.child) c.fork.ensures)

pub returns-in-Exit : goal.returns-in-Exit
unfolding is_start is_on_rulesets enforced effect OutcomeFits
returns-in-Exit c =
    let op = c.args.op.now in
    let there : is_start op ≡ false = search rules in
    let quiet : (rulesets : List Layer) (s : State) → IsQuiet s (effect c.args.self.now.tree.now rulesets op s) = search rules in
    let off : is_on_rulesets op ≡ false = search rules in
    let unforced : (rulesets : List Layer) (s : State) → enforced rulesets op s ≡ None = search rules in
    settles_quiet c.args.process op c.args.self.now c.requires.sound _ ByState quiet (extends_same _) c.requires.sound.layers
    (λ w agrees. (off, unforced w.rulesets (w.processes c.args.process)))
