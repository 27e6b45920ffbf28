-- Going up keeps the answer: where a path isn't there, it is the answer for the path above, which is so many names shorter.
use Rattle.std.proofs.Common.{◌≡◌, ◌+◌, ◌≤◌, length}
use Rattle.ll_lines.specs.declared.path.TheConstants.{LONGEST_PATH}
use Rattle.ll_explanations.specs.Meant.{above_by}
use Rattle.ll_reasons.specs.Reasons.{nowhere, spelt}
use Rattle.ll_explanations.proofs.objects.nowhere_from.Given as goal

abbrev pub invariant-loop-up : goal.invariant-loop-up
invariant-loop-up l =
    (nowhere l.tree l.missing ≡ nowhere l.tree (spelt l.text)) × (above_by l.above (spelt l.text) ≡ l.missing)
    × (l.above + length l.missing ≤ LONGEST_PATH)

abbrev pub decreases-loop-up : goal.decreases-loop-up
decreases-loop-up l = length l.missing
