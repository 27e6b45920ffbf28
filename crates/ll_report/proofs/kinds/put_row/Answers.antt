use Rattle.std.proofs.Common.{◌∙◌, List, ℕ, ap, arith}
use Rattle.ll_explain.specs.Buffers.{Buffered, adding}
use Rattle.ll_report.specs.Made.{Made, row_at}
use Rattle.ll_report.proofs.WholeRows.{held_again, held_there}
use Rattle.ll_report.proofs.kinds.put_row.Goals as goal

pub returns-in_ok-push_row-2-clause-held : goal.returns-in_ok-push_row-2-clause-held
returns-in_ok-push_row-2-clause-held g c =
    let row : List ℕ = row_at (g.R.Rows.made_of c.args.rows.now) c.args.index in
    held_again row _ _ c.push_row.new.text c.push_row-then-count-room.new.text
    (c.in_ok-push_row.ensures.row ∙ ap (λ (b : Buffered). adding b row) c.clear.ensures) c.count-then-count-room.ensures c.in_ok-text.ensures.small
    (c.in_ok-push_row-2.ensures.row
    ∙ ap (λ (m : Made). adding c.in_ok-text.field-0 (row_at m c.args.index)) c.push_row.ensures.made
    ∙ ap (λ (b : Buffered). adding b row) c.in_ok-text.ensures.room)

pub returns-else-count-room-clause-held : goal.returns-else-count-room-clause-held
returns-else-count-room-clause-held g c =
    let row : List ℕ = row_at (g.R.Rows.made_of c.args.rows.now) c.args.index in
    held_there row _ c.push_row.new.text (c.in_ok-push_row.ensures.row ∙ ap (λ (b : Buffered). adding b row) c.clear.ensures) c.room.ensures.small
    (omega (arith, c.if-count-room.false, c.count.ensures, c.room.ensures.room))
