use Rattle.std.proofs.Common.{sym, ◌∙◌}
use Rattle.ll_comparison.specs.Comparisons.{with_rule}
use Rattle.ll_values.proofs.Folds.{fold_next}
use Rattle.ll_comparison.proofs.rules.take_rules.Goals as goal

pub loop-rule-preserved : goal.loop-rule-preserved
loop-rule-preserved g c =
    sym (fold_next (with_rule g.S.RightSet.family g.S.Granted.in_rule c.args.name.now) c.loop-rule.sets c.take_rule.new.sets
    c.args.rules.now c.loop-rule.rule-index c.rule-item.result c.loop-rule-test.true c.rule-item.is c.in_ok-take_rule.ensures) ∙ c.loop-rule.invariant
