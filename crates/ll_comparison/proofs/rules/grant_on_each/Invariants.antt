use Rattle.std.proofs.Common.{◌≡◌, drop}
use Rattle.serde_json.specs.View.{items_view}
use Rattle.ll_values.specs.Lists.{fold_items}
use Rattle.ll_comparison.specs.Comparisons.{with_rights_on}
use Rattle.ll_comparison.proofs.rules.grant_on_each.Given as goal

abbrev pub invariant-loop-number : goal.invariant-loop-number
invariant-loop-number g l = fold_items (with_rights_on g.S.RightSet.family l.rights) l.sets (items_view (drop l.number-index l.numbers))
    ≡ fold_items (with_rights_on g.S.RightSet.family l.rights) l.initial.sets (items_view l.numbers)
