-- The bound of the walk is over each node that has the path.
use Rattle.ll_tree.proofs.Walk.{IsOver}
use Rattle.ll_tree.proofs.tree.Tree.find.Given as goal

abbrev pub invariant-loop-bound : goal.invariant-loop-bound
invariant-loop-bound l = IsOver l.self l.text l.bound

abbrev pub decreases-loop-bound : goal.decreases-loop-bound
decreases-loop-bound l = l.bound
