use Rattle.std.proofs.Common.{true, length}
use denote.Text.{Utf8}
use denote.Shadow.{shadow}
use Rattle.ll_members.specs.Plain.{IsUnescaped}
use Rattle.ll_members.proofs.PlainLemmas.{HasNamed}
use Rattle.ll_members.proofs.plain.scan_rights.Given as goal

-- the texts so far stand for these rights
abbrev pub invariant-loop-others : goal.invariant-loop-others
invariant-loop-others l = HasNamed true l.line l.rest l.rights × IsUnescaped l.rest × shadow (Utf8 l.rest)

abbrev pub decreases-loop-others : goal.decreases-loop-others
decreases-loop-others l = length l.rest
