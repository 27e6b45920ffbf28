use Rattle.std.proofs.Common.{◌∙◌, codes, cond, ap, sym}
use Rattle.ll_explain.specs.Buffers.{adding}
use Rattle.ll_explain.specs.Words.{behind, joined, word_for}
use Rattle.ll_explain.proofs.Tables.{words_alike}
use Rattle.ll_explain.proofs.Listing.{written_all, written_with, written_without}
use Rattle.ll_explain.proofs.rights.push_names.Goals as goal
use Rattle.ll_explain.proofs.rights.push_names.Goals.{then-has, else-has}

pub loop-right-preserved : goal.loop-right-preserved
loop-right-preserved g c =
    let index = c.loop-right.right-index in
    elim c.if-has.branch [
      | then-has w ↦
          rw (w.text-is, w.is_first-is) (written_with _ _ (codes ", ") c.loop-right.text _ _ c.loop-right.is_first _ index c.right-item.result
          c.loop-right-test.true c.right-item.is (sym c.has.ensures ∙ w.if-has.true) c.loop-right.invariant
          (w.push_name.ensures ∙ ap (λ name. adding c.loop-right.text (cond c.loop-right.is_first name (behind (codes ", ") name)))
          (w.word_for.ensures ∙ ap word_for w.name.ensures)))
      | else-has w ↦
          rw (w.text-is, w.is_first-is) (written_without _ _ (codes ", ") c.loop-right.text _ c.loop-right.is_first _ index c.right-item.result
          c.loop-right-test.true c.right-item.is (sym c.has.ensures ∙ w.if-has.false) c.loop-right.invariant)
    ]

pub returns : goal.returns
returns g c =
    let sets = g.S.RightSet in
    written_all _ _ (codes ", ") c.args.text.now c.loop-right.text c.loop-right.is_first c.all-right-items.result.now c.loop-right.right-index
    c.loop-right-test.false c.loop-right.invariant
    ∙ ap (λ words. adding c.args.text.now (joined (codes ", ") words))
    (words_alike sets.named (λ right. (sets.family.row right).name) sets.family.all_rights c.all-right-items.result.now c.all-right-items.ensures
    (sets.family.has c.args.rights) ∙ g.met.S.WordedSet.worded c.args.rights)
