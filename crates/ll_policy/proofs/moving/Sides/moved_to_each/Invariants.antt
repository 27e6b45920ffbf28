use Rattle.std.specs.List.{AllZip, range_with_len}
use Rattle.ll_policy.specs.Chains.{is_file_in}
use Rattle.ll_policy.specs.FoundMoves.{passes_by, TellsMovedTo}
use Rattle.ll_policy.proofs.moving.Sides.moved_to_each.Given as goal

-- what is found of the regions so far
abbrev pub invariant-loop-to : goal.invariant-loop-to
invariant-loop-to l =
    AllZip
    (TellsMovedTo (is_file_in l.self.files.now) l.self.parents.now l.self.kind (passes_by l.self.kind l.self.one.now) (passes_by l.self.kind l.self.other.now))
    (range_with_len 0 l.to) l.found.items
