-- Those counted and those that are left are all.
use Rattle.std.proofs.Common.{◌≡◌, ◌+◌, length}
use Rattle.ll_lines.specs.LineByLine.{line_feeds}
use Rattle.ll_lines.proofs.lines.count_line_feeds.Given as goal

abbrev pub invariant-loop-lanes : goal.invariant-loop-lanes
invariant-loop-lanes l = l.count + line_feeds l.rest ≡ line_feeds l.bytes

abbrev pub decreases-loop-lanes : goal.decreases-loop-lanes
decreases-loop-lanes l = length l.rest
