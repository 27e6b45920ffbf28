use Rattle.std.proofs.Common.{◌≡◌, ℕ, ◌<◌, ◌%◌, false, eqb}
use Rattle.std.specs.Int.{bit_at}
use Rattle.ll_rights.specs.Rights.{FsRight}
use Rattle.ll_rules.specs.KeptLayers.{granted_on_node}
use Rattle.ll_rules.specs.Lanes.{stacked}
use Rattle.ll_rules.proofs.domain.Stack.marked_of.Given as goal

-- where a node has no mark so far, no layer so far has a rule on it
abbrev pub invariant-loop-id : goal.invariant-loop-id
invariant-loop-id l = record {
  lower : (index : ℕ) → index < l.id-index → eqb (bit_at l.at_lower (l.lower.0 % 64)) 1 ≡ false → (right : FsRight)
      → granted_on_node (stacked l.self index) l.lower right ≡ false;
  upper : (index : ℕ) → index < l.id-index → eqb (bit_at l.at_upper (l.upper.0 % 64)) 1 ≡ false → (right : FsRight)
      → granted_on_node (stacked l.self index) l.upper right ≡ false;
}
