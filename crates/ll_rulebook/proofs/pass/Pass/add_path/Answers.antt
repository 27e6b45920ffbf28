use Rattle.std.proofs.Common.{sym}
use Rattle.std.proofs.lemmas.Result.{IfOk-weaker}
use Rattle.ll_rulebook.proofs.Settling.{settles_unheld, settles_rule}
use Rattle.ll_rulebook.proofs.Calls.{path_adds, path_stays}
use Rattle.ll_rulebook.proofs.pass.Pass.add_path.Goals as goal

pub returns-in_default : goal.returns-in_default
returns-in_default c = rw c.failed.ensures
    (settles_unheld c.args.process _ c.args.self.now c.requires.sound c.args.rs _ _
    (path_adds c.args.self.now.tree.now c.args.self.now.abi c.args.rs c.args.path.now c.args.fs) (sym c.in_default.ensures))

pub returns : goal.returns
returns c = IfOk-weaker c.added.result _ _ (λ outcome is.
    settles_rule c.args.process _ c.args.self.now c.requires.sound c.args.rs _ _
    (path_adds c.args.self.now.tree.now c.args.self.now.abi c.args.rs c.args.path.now c.args.fs)
    c.in-Some.index (sym c.in-Some.ensures) c.add_path.new.self _ c.add_path.result outcome
    (rw (c.place_of-spot.ensures.place, c.as_str.ensures.text) at c.add_path.ensures) is
    (λ one next was. path_stays c.args.self.now.tree.now one next _ c.args.fs))
    c.added.ensures
