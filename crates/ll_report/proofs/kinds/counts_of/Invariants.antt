-- The kinds are those of the rows so far.
use Rattle.std.proofs.Common.{◌≡◌, take}
use Rattle.ll_report.specs.Counted.{AreCounted}
use Rattle.ll_report.proofs.kinds.counts_of.Given as goal

abbrev pub invariant-loop-index : goal.invariant-loop-index
invariant-loop-index g l =
    let made = g.R.Rows.made_of l.fn.rows in
    (g.R.Rows.made_of l.rows ≡ made) × AreCounted (take l.index made.shown) l.kinds
