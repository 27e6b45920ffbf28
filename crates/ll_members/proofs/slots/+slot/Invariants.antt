-- How much of a list or of an object was read so far.
use Rattle.std.proofs.Common.{◌+◌, ◌*◌, length}
use Rattle.ll_members.proofs.RightsLemmas.{HasFolded}
use Rattle.ll_members.proofs.PassedLemmas.{HasPassed}
use Rattle.ll_members.proofs.slots.+slot.Given as goal

abbrev pub decreases-slot_in : goal.decreases-slot_in
decreases-slot_in l = 2 * l.depth

abbrev pub decreases-rights_in : goal.decreases-rights_in
decreases-rights_in l = 2 * l.depth + 1

abbrev pub invariant-rights_in-loop-reader : goal.invariant-rights_in-loop-reader
invariant-rights_in-loop-reader l = HasFolded l.depth l.initial.reader l.reader l.rights

abbrev pub decreases-rights_in-loop-reader : goal.decreases-rights_in-loop-reader
decreases-rights_in-loop-reader l = length l.reader

abbrev pub decreases-skip_members : goal.decreases-skip_members
decreases-skip_members l = 2 * l.depth + 1

abbrev pub invariant-skip_members-loop-reader : goal.invariant-skip_members-loop-reader
invariant-skip_members-loop-reader l = HasPassed l.depth l.initial.reader l.reader

abbrev pub decreases-skip_members-loop-reader : goal.decreases-skip_members-loop-reader
decreases-skip_members-loop-reader l = length l.reader
