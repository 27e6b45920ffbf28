use Rattle.std.proofs.Common.{◌≡◌, ℕ, Result, [], drop, map}
use Rattle.serde_json.specs.Data.{Data}
use Rattle.serde_json.specs.View.{items_view}
use Rattle.ll_lines.specs.declared.fault.Cause.{Cause}
use Rattle.ll_values.specs.Lists.{fold_items, one_more, ReadsAs}
use Rattle.ll_values.proofs.lists.all_in.Given as goal

abbrev pub invariant-loop-value : goal.invariant-loop-value
invariant-loop-value g l =
    (reads : ℕ → Data → Result g.S.Sight.Seen Cause) → ReadsAs g.F.Fn l.read g.S.Sight.seen reads
    → fold_items (one_more reads) (map g.S.Sight.seen l.all.items) (items_view (drop l.value-index l.values))
    ≡ fold_items (one_more reads) [] (items_view l.values)
