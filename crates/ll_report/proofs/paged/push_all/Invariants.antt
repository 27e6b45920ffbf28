-- What is added, with the rows that are left and the last lines, is the whole.
use Rattle.std.proofs.Common.{◌≡◌, ◌++◌, drop}
use Rattle.std.specs.List.{flat_map}
use Rattle.ll_explain.specs.Buffers.{adding}
use Rattle.ll_report.specs.Made.{text_of}
use Rattle.ll_report.proofs.paged.push_all.Given as goal

abbrev pub invariant-loop-index : goal.invariant-loop-index
invariant-loop-index g l =
    let made = g.R.Rows.made_of l.fn.rows in
    (g.R.Rows.made_of l.rows ≡ made) × (adding l.text (flat_map (λ row. row) (drop l.index made.shown) ++ made.last) ≡ adding l.fn.text (text_of made))
