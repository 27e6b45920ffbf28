use Rattle.std.proofs.Common.{◌≡◌, ℕ, ◌&&◌, ◌<◌, ◌≤◌, length, get_or}
use Rattle.ll_rights.specs.Rights.{FsRight, has}
use Rattle.ll_rules.specs.declared.domain.TheConstants.{MOST_LAYERS}
use Rattle.ll_rules.specs.Layers.{handles}
use Rattle.ll_rules.specs.Lanes.{set_of, stacked}
use Rattle.ll_rules.proofs.domain.Stack.asked_in.Given as goal

-- the lanes so far hold what their layers handle of what is wanted, and the others nothing
abbrev pub invariant-loop-index : goal.invariant-loop-index
invariant-loop-index l = record {
  long : length l.row ≡ MOST_LAYERS;
  so_far : (index : ℕ) → index < l.index → (right : FsRight)
      → has (set_of (get_or l.row index 0)) right ≡ (handles (stacked l.self index) right && has l.wanted right);
  rest : (index : ℕ) → l.index ≤ index → get_or l.row index 0 ≡ 0;
}
