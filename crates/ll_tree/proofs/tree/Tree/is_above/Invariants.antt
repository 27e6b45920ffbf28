-- The climb looks at nodes whose answer is that of the lower one, each listed before the one below it.
use Rattle.std.proofs.Common.{◌≡◌}
use Rattle.ll_lines.specs.Paths.{is_prefix}
use Rattle.ll_tree.specs.Trees.{path_at, IsNode}
use Rattle.ll_tree.proofs.tree.Tree.is_above.Given as goal

abbrev pub invariant-loop-up : goal.invariant-loop-up
invariant-loop-up l =
    IsNode l.self l.node × (is_prefix (path_at l.self l.upper) (path_at l.self l.node) ≡ is_prefix (path_at l.self l.upper) (path_at l.self l.fn.lower))

abbrev pub decreases-loop-up : goal.decreases-loop-up
decreases-loop-up l = l.node.0
