use Rattle.std.proofs.Common.{◌≡◌, ℕ, ◌<◌, eqb, false, not, take, get_or}
use Rattle.std.specs.List.{list_any}
use Rattle.ll_rules.proofs.domain.Stack.is_any_filled.Given as goal

-- the lanes so far are empty
abbrev pub invariant-loop-index : goal.invariant-loop-index
invariant-loop-index l = record {
  none : list_any (λ bits. not (eqb bits 0)) (take l.index l.lanes) ≡ false;
  each : (index : ℕ) → index < l.index → get_or l.lanes index 0 ≡ 0;
}
