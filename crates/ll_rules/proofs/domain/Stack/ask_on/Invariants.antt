use Rattle.std.proofs.Common.{◌≡◌, ℕ, ◌<◌, ◌≤◌, ◌&&◌, not, length, get_or}
use Rattle.ll_rights.specs.Rights.{FsRight, has}
use Rattle.ll_rules.specs.declared.domain.TheConstants.{MOST_LAYERS}
use Rattle.ll_rules.specs.KeptLayers.{granted_on_node}
use Rattle.ll_rules.specs.Lanes.{lane, stacked}
use Rattle.ll_rules.proofs.domain.Stack.ask_on.Given as goal

-- the layers so far were asked, and the other lanes are as they were
abbrev pub invariant-loop-index : goal.invariant-loop-index
invariant-loop-index l = record {
  long : length l.lanes ≡ MOST_LAYERS;
  so_far : (index : ℕ) → index < l.index → (right : FsRight)
      → has (lane l.lanes index) right ≡ (has (lane l.fn.lanes index) right && not (granted_on_node (stacked l.self index) l.node right));
  rest : (index : ℕ) → l.index ≤ index → get_or l.lanes index 0 ≡ get_or l.fn.lanes index 0;
  none : (index : ℕ) → index < l.index → l.all ≡ 0 → get_or l.lanes index 0 ≡ 0;
  count : l.look_ups ≤ l.index;
}
