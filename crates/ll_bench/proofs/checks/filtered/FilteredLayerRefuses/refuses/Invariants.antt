use Rattle.std.proofs.Common.{◌+◌}
use Rattle.std.specs.Prelude.{IfSome}
use Rattle.std.specs.Option.{option_map_or}
use Rattle.ll_tree.specs.Trees.{IsNode}
use Rattle.ll_bench.proofs.checks.filtered.FilteredLayerRefuses.refuses.Given as goal

abbrev pub invariant-loop-cursor : goal.invariant-loop-cursor
invariant-loop-cursor l = IfSome l.cursor (IsNode l.tree)

abbrev pub decreases-loop-cursor : goal.decreases-loop-cursor
decreases-loop-cursor l = option_map_or (λ here. here.0 + 1) l.cursor 0
