use Rattle.ll_policy.specs.Chains.{is_file_in}
use Rattle.ll_policy.specs.FoundMoves.{passes_by, TellsMovedTo}
use Rattle.ll_policy.proofs.Lists.{zip_next}
use Rattle.ll_policy.proofs.moving.Sides.moved_to_each.Goals as goal

pub loop-to-preserved : goal.loop-to-preserved
loop-to-preserved c =
    let s = c.args.self.now in
    zip_next (TellsMovedTo (is_file_in s.files.now) s.parents.now s.kind (passes_by s.kind s.one.now) (passes_by s.kind s.other.now))
    c.loop-to.to c.loop-to.found.items c.push.new.self.items c.in_ok-moved_to.field-0
    c.loop-to.invariant c.in_ok-moved_to.ensures c.in_ok-push.ensures.items
