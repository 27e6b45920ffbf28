use Rattle.std.proofs.Common.{rules, ◌≡◌, ◌∙◌, ◌+◌, ◌<◌, ◌++◌, ◌∷◌, List, ℕ, [], ap, length, subst, take}
use Rattle.ll_report.specs.Counted.{AreCounted}
use Rattle.ll_report.specs.Made.{Made, row_at}
use Rattle.ll_report.proofs.Grouping.{rows_more}
use Rattle.ll_report.proofs.kinds.counts_of.Goals as goal

pub loop-index-preserved : goal.loop-index-preserved
loop-index-preserved g c =
    let made : Made = g.R.Rows.made_of c.args.rows.now in
    let l = c.loop-index in
    let below : l.index < length made.shown = search rules in
    let held : c.held.result.now ≡ row_at made l.index =
    c.held.ensures.bytes ∙ c.in_ok-put_row.ensures.held ∙ ap (λ (m : Made). row_at m l.index) l.invariant.0 in
    let rows : take l.index made.shown ++ c.held.result.now ∷ [] ≡ take (l.index + 1) made.shown =
    ap (λ (row : List ℕ). take l.index made.shown ++ row ∷ []) held ∙ rows_more made l.index below in (
      c.put_row.ensures.made ∙ l.invariant.0,
      subst (λ (said : List (List ℕ)). AreCounted said c.add.new.self) rows (c.in_ok-add.ensures (take l.index made.shown) l.invariant.1),
    )
