use Rattle.std.proofs.Common.{sym}
use Rattle.std.proofs.lemmas.Result.{IfOk-weaker}
use Rattle.ll_rules.specs.InTree.{AreInTree}
use Rattle.ll_rulebook.proofs.Settling.{settles_unheld, settles_rule}
use Rattle.ll_rulebook.proofs.Calls.{port_adds, port_stays}
use Rattle.ll_rulebook.proofs.Frozen.{all_there}
use Rattle.ll_rulebook.proofs.pass.Pass.add_port.Goals as goal

pub returns-in_default : goal.returns-in_default
returns-in_default c = rw c.failed.ensures
    (settles_unheld c.args.process _ c.args.self.now c.requires.sound c.args.rs _ _
    (port_adds c.args.self.now.tree.now c.args.self.now.abi c.args.rs c.args.port c.args.net) (sym c.in_default.ensures))

pub returns : goal.returns
returns c = IfOk-weaker c.added.result _ _ (λ outcome is.
    settles_rule c.args.process _ c.args.self.now c.requires.sound c.args.rs _ _
    (port_adds c.args.self.now.tree.now c.args.self.now.abi c.args.rs c.args.port c.args.net)
    c.in-Some.index (sym c.in-Some.ensures) c.add_port.new.self _ c.add_port.result outcome c.add_port.ensures is (λ one next was added.
    port_stays c.args.self.now.tree.now one next c.args.port c.args.net added
    (all_there (AreInTree c.args.self.now.tree.now) c.args.self.now.store.rulesets c.in-Some.index one c.requires.sound.rulesets was)))
    c.added.ensures
