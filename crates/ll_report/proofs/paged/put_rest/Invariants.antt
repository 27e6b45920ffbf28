-- A beginning of what was left of the part is written.
use Rattle.std.proofs.Common.{◌≡◌, ◌<◌, ◌-◌, ◌^◌}
use Rattle.ll_report.specs.Made.{part_at}
use Rattle.ll_report.proofs.Paging.{IsMidway}
use Rattle.ll_report.proofs.paged.put_rest.Given as goal

abbrev pub invariant-loop-whole : goal.invariant-loop-whole
invariant-loop-whole g l =
    (g.R.Rows.made_of l.rows ≡ g.R.Rows.made_of l.fn.rows) × (0 < l.page.room) ×
    IsMidway (g.O.Write.contents l.fn.out) (g.O.Write.contents l.out) (part_at (g.R.Rows.made_of l.fn.rows) l.index) l.fn.skip l.written

abbrev pub decreases-loop-whole : goal.decreases-loop-whole
decreases-loop-whole g l = 2 ^ 64 - l.written
