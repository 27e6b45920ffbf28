-- The members so far show in their slots, and those left follow them.
use Rattle.std.proofs.Common.{length}
use Rattle.ll_members.proofs.PassedLemmas.{HasFilled}
use Rattle.ll_members.proofs.slots.fill.Given as goal

abbrev pub invariant-loop-key : goal.invariant-loop-key
invariant-loop-key l = HasFilled l.depth l.initial.reader l.reader l.members

abbrev pub decreases-loop-key : goal.decreases-loop-key
decreases-loop-key l = length l.reader
