use Rattle.std.proofs.Common.{◌≡◌, ℕ, ◌<◌, false}
use Rattle.ll_policy.specs.Chains.{passes}
use Rattle.ll_policy.specs.Regions.{single}
use Rattle.ll_policy.proofs.moving.passes_somewhere.Given as goal

-- it passes in none so far
abbrev pub invariant-loop-region : goal.invariant-loop-region
invariant-loop-region l = (n : ℕ) → n < l.region → passes l.layers (single n) ≡ false
