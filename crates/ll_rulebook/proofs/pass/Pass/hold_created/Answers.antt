use Rattle.ll_rulebook.proofs.Settling.{settles_created}
use Rattle.ll_rulebook.proofs.pass.Pass.hold_created.Goals as goal

pub returns : goal.returns
returns c = λ fs net op plain creates. rw (c.in_ok-index.ensures.adds, plain)
    (settles_created c.args.process op c.args.self.now c.requires.sound c.hold.new.self c.args.rs fs net c.in_ok-index.index creates c.requires.free
    c.in_ok-index.ensures.index c.in_ok-hold.ensures)
