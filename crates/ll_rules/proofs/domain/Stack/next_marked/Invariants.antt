use Rattle.std.proofs.Common.{◌≡◌, ℕ, ◌+◌, ◌*◌, ◌≤◌, length}
use Rattle.std.specs.Prelude.{IfSome}
use Rattle.std.specs.Option.{option_map_or}
use Rattle.ll_rights.specs.Rights.{FsRight}
use Rattle.ll_tree.specs.Trees.{IsNode}
use Rattle.ll_rules.specs.InTree.{nodes_up, granted_above}
use Rattle.ll_rules.specs.Lanes.{stacked}
use Rattle.ll_rules.proofs.domain.Stack.next_marked.Given as goal

-- nothing is granted on what was passed
abbrev pub invariant-loop-cursor : goal.invariant-loop-cursor
invariant-loop-cursor l = record {
  inside : IfSome l.cursor (IsNode l.self.tree.now);
  above : nodes_up l.self.tree.now l.cursor ≤ nodes_up l.self.tree.now l.fn.from;
  passed : (index : ℕ) (right : FsRight)
      → granted_above l.self.tree.now (stacked l.self index) l.cursor right ≡ granted_above l.self.tree.now (stacked l.self index) l.fn.from right;
  count : l.look_ups + length l.self.ids.now * nodes_up l.self.tree.now l.cursor ≤ l.fn.look_ups + length l.self.ids.now * nodes_up l.self.tree.now l.fn.from;
}

abbrev pub decreases-loop-cursor : goal.decreases-loop-cursor
decreases-loop-cursor l = option_map_or (λ here. here.0 + 1) l.cursor 0
