use Rattle.std.proofs.Common.{◌≡◌, ap, sym, ◌∙◌}
use Rattle.ll_rights.specs.Families.{with_name}
use Rattle.ll_values.proofs.Texts.{fold_texts_next}
use Rattle.ll_values.proofs.members.set_in_list.Goals as goal

pub loop-name-preserved : goal.loop-name-preserved
loop-name-preserved g c =
    let sets = g.S.RightSet.family in
    let next : c.union-set.result ≡ with_name sets c.loop-name.set c.in_ok-text_in_list.field-0.now =
    c.union-set.ensures ∙ ap (λ one. sets.united c.loop-name.set one) c.of_name.ensures in
    rw next (sym (fold_texts_next (with_name sets) c.loop-name.set c.args.names.now c.loop-name.name-index c.name-item.result
    c.in_ok-text_in_list.field-0.now c.loop-name-test.true c.name-item.is c.in_ok-text_in_list.ensures) ∙ c.loop-name.invariant)
