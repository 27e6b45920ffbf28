use Rattle.std.proofs.Common.{◌≡◌, ℕ, ◌+◌, ◌*◌, ◌≤◌, ◌&&◌, not, length}
use Rattle.std.specs.Prelude.{IfSome}
use Rattle.ll_rights.specs.Rights.{FsRight, has}
use Rattle.ll_tree.specs.Trees.{IsNode, path_at}
use Rattle.ll_tree.specs.TreeFacts.{depth_at}
use Rattle.ll_rules.specs.Layers.{granted}
use Rattle.ll_rules.specs.InTree.{in_tree, nodes_up}
use Rattle.ll_rules.specs.Lanes.{lane, stacked}
use Rattle.ll_rules.proofs.DomainLanes.{left_above}
use Rattle.ll_rules.proofs.domain.Stack.climb.Given as goal

-- what is left of the lanes, less what is granted from here on up
abbrev pub invariant-loop-here : goal.invariant-loop-here
invariant-loop-here l = record {
  inside : IfSome l.cursor (IsNode l.self.tree.now);
  so_far : (index : ℕ) (right : FsRight) → left_above l.self.tree.now (stacked l.self index) l.cursor right (has (lane l.lanes index) right)
      ≡ (has (lane l.fn.lanes index) right && not (granted (in_tree l.self.tree.now (stacked l.self index)) (path_at l.self.tree.now l.fn.node) right));
  count : l.look_ups + length l.self.ids.now * nodes_up l.self.tree.now l.cursor ≤ length l.self.ids.now * (depth_at l.self.tree.now l.fn.node + 1);
}

abbrev pub decreases-loop-here : goal.decreases-loop-here
decreases-loop-here l = nodes_up l.self.tree.now l.cursor
