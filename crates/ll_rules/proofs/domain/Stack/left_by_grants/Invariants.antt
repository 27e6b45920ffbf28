use Rattle.std.proofs.Common.{◌≡◌, ℕ, ◌<◌, ◌≤◌, ◌&&◌, not, length, get_or}
use Rattle.ll_rights.specs.Rights.{FsRight, has}
use Rattle.ll_tree.specs.Trees.{path_at}
use Rattle.ll_rules.specs.declared.domain.TheConstants.{MOST_LAYERS}
use Rattle.ll_rules.specs.Layers.{granted}
use Rattle.ll_rules.specs.InTree.{in_tree}
use Rattle.ll_rules.specs.Lanes.{lane, stacked}
use Rattle.ll_rules.proofs.domain.Stack.left_by_grants.Given as goal

-- what the layers so far grant is taken, and the other lanes are as they were
abbrev pub invariant-loop-index : goal.invariant-loop-index
invariant-loop-index l = record {
  long : length l.left ≡ MOST_LAYERS;
  so_far : (index : ℕ) → index < l.index → (right : FsRight) → has (lane l.left index) right
      ≡ (has (lane l.fn.lanes index) right && not (granted (in_tree l.self.tree.now (stacked l.self index)) (path_at l.self.tree.now l.node) right));
  rest : (index : ℕ) → l.index ≤ index → get_or l.left index 0 ≡ get_or l.fn.lanes index 0;
}
