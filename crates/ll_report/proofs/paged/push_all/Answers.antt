use Rattle.std.proofs.Common.{rules, ◌∙◌, ◌+◌, ◌<◌, length, sym, ap}
use Rattle.ll_explain.specs.Buffers.{adding}
use Rattle.ll_explain.proofs.Buffering.{goes_on}
use Rattle.ll_report.specs.Made.{Made, row_at}
use Rattle.ll_report.proofs.Making.{left, left_next}
use Rattle.ll_report.proofs.paged.push_all.Goals as goal

pub loop-index-preserved : goal.loop-index-preserved
loop-index-preserved g c =
    let made : Made = g.R.Rows.made_of c.args.rows.now in
    let same = c.loop-index.invariant.0 in
    let below : c.loop-index.index < length made.shown = search rules in (
      c.push_row.ensures.made ∙ same,
      goes_on c.loop-index.text c.push_row.new.text _ (row_at made c.loop-index.index) (left made (c.loop-index.index + 1))
          (ap (adding c.loop-index.text) (sym (left_next made c.loop-index.index below)) ∙ c.loop-index.invariant.1)
          (c.in_ok-push_row.ensures.row ∙ ap (λ (m : Made). adding c.loop-index.text (row_at m c.loop-index.index)) same),
    )
