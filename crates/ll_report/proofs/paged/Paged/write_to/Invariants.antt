-- What is written, what the page holds, and what is left make the whole.
use Rattle.std.proofs.Common.{◌≡◌, ◌++◌}
use Rattle.ll_report.specs.Made.{text_of}
use Rattle.ll_report.specs.Writing.{IsPage, Sends}
use Rattle.ll_report.proofs.Making.{left}
use Rattle.ll_report.proofs.paged.Paged.write_to.Given as goal

abbrev pub invariant-loop-index : goal.invariant-loop-index
invariant-loop-index g l =
    (g.R.Rows.made_of l.rows ≡ l.fn.self) × IsPage l.page
    × Sends (g.O.Write.contents l.fn.out) (g.O.Write.contents l.out) (text_of l.fn.self) (l.page.held ++ left l.fn.self l.index)
