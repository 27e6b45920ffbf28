use Rattle.std.proofs.Common.{◌≡◌, ℕ, ◌<◌, ◌≤◌, length, get_or}
use Rattle.ll_rights.specs.Rights.{FsRight, has}
use Rattle.ll_rules.specs.declared.domain.TheConstants.{MOST_LAYERS}
use Rattle.ll_rules.specs.Layers.{handles}
use Rattle.ll_rules.specs.Lanes.{set_of, stacked}
use Rattle.ll_rules.proofs.domain.Stack.handled_in.Given as goal

-- the lanes so far hold what their layers handle, and the others nothing
abbrev pub invariant-loop-place : goal.invariant-loop-place
invariant-loop-place l = record {
  long : length l.row ≡ MOST_LAYERS;
  so_far : (place : ℕ) → place < l.place → (right : FsRight) → has (set_of (get_or l.row place 0)) right ≡ handles (stacked l.self place) right;
  rest : (place : ℕ) → l.place ≤ place → get_or l.row place 0 ≡ 0;
}
