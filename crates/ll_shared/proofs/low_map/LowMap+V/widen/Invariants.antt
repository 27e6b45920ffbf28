-- the leaves that are added have no entry, until there are enough
use Rattle.std.proofs.Common.{◌≡◌, ℕ, length, ◌+◌, ◌-◌}
use Rattle.ll_shared.specs.LowMaps.{value_of}
use Rattle.ll_shared.proofs.low_map.LowMap+V.widen.Given as goal

abbrev pub invariant-loop-self : goal.invariant-loop-self
invariant-loop-self g l = (key : ℕ) → value_of l.self key ≡ value_of l.fn.self key

abbrev pub decreases-loop-self : goal.decreases-loop-self
decreases-loop-self g l = l.index + 1 - length l.self.low.items
