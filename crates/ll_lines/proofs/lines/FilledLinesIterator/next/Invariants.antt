use Rattle.std.proofs.Common.{◌≡◌, ◌<◌, ◌+◌, ◌^◌, length}
use Rattle.ll_lines.specs.Lines.{filled_from}
use Rattle.ll_lines.proofs.lines.FilledLinesIterator.next.Given as goal

abbrev pub invariant-loop-self : goal.invariant-loop-self
invariant-loop-self l =
    (l.self-inside.number + length l.self-inside.rest.now < 2 ^ 64) × (filled_from (l.self-inside.number + 1) l.self-inside.rest.now ≡ l.fn.self)

abbrev pub decreases-loop-self : goal.decreases-loop-self
decreases-loop-self l = length l.self-inside.rest.now
