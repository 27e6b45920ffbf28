use Rattle.std.proofs.Common.{true, length}
use denote.Text.{Utf8}
use denote.Shadow.{shadow}
use Rattle.ll_members.specs.Plain.{IsUnescaped}
use Rattle.ll_members.proofs.PlainLemmas.{HasScanned}
use Rattle.ll_members.proofs.plain.scan_line.Given as goal

-- the members so far show in their slots
abbrev pub invariant-loop-others : goal.invariant-loop-others
invariant-loop-others l = HasScanned true l.line l.rest l.members × IsUnescaped l.rest × shadow (Utf8 l.rest)

abbrev pub decreases-loop-others : goal.decreases-loop-others
decreases-loop-others l = length l.rest
