use Rattle.std.proofs.Common.{◌∙◌, ap, arith}
use Rattle.ll_explain.specs.Buffers.{Buffered, adding}
use Rattle.ll_explain.proofs.Buffering.{held_as_counted}
use Rattle.ll_report.specs.Made.{Made, text_of}
use Rattle.ll_report.proofs.paged.Paged.into_bytes.Goals as goal

pub returns : goal.returns
returns g c =
    let made : Made = g.R.Rows.made_of c.self.inside.rows in
    c.into_bytes.ensures
    ∙ held_as_counted (text_of made) c.push_all.new.text c.push_all-2.new.text c.count.result
    (c.in_ok-push_all.ensures.text ∙ ap (λ (b : Buffered). adding b (text_of made)) c.counter-counter.ensures) c.count.ensures
    (omega (arith, c.in_ok-text.ensures.small))
    (c.in_ok-push_all-2.ensures.text ∙ ap (λ (m : Made). adding c.in_ok-text.text (text_of m)) c.push_all.ensures.made
    ∙ ap (λ (b : Buffered). adding b (text_of made)) c.in_ok-text.ensures.room)
    ∙ ap text_of c.self.view_is
