use Rattle.std.proofs.Common.{◌≡◌, drop}
use Rattle.serde_json.specs.View.{items_view}
use Rattle.ll_values.specs.Lists.{fold_items}
use Rattle.ll_comparison.specs.Comparisons.{with_rule}
use Rattle.ll_comparison.proofs.rules.take_rules.Given as goal

abbrev pub invariant-loop-rule : goal.invariant-loop-rule
invariant-loop-rule g l = fold_items (with_rule g.S.RightSet.family g.S.Granted.in_rule l.name) l.sets (items_view (drop l.rule-index l.rules))
    ≡ fold_items (with_rule g.S.RightSet.family g.S.Granted.in_rule l.name) l.initial.sets (items_view l.rules)
