use Rattle.std.proofs.Common.{sym, ◌∙◌}
use Rattle.ll_comparison.specs.Comparisons.{with_rights_on}
use Rattle.ll_values.proofs.Folds.{fold_next}
use Rattle.ll_comparison.proofs.rules.grant_on_each.Goals as goal

pub loop-number-preserved : goal.loop-number-preserved
loop-number-preserved g c =
    sym (fold_next (with_rights_on g.S.RightSet.family c.args.rights) c.loop-number.sets c.grant_on.new.sets c.args.numbers.now c.loop-number.number-index
    c.number-item.result c.loop-number-test.true c.number-item.is c.in_ok-grant_on.ensures) ∙ c.loop-number.invariant
