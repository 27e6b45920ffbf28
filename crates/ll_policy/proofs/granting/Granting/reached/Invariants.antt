use Rattle.std.proofs.Common.{drop}
use Rattle.ll_policy.proofs.Spread.{AreReached}
use Rattle.ll_policy.proofs.granting.Granting.reached.Given as goal

-- the objects so far, and those that are left
abbrev pub invariant-loop-index : goal.invariant-loop-index
invariant-loop-index l = AreReached l.parents l.self.grants (drop l.index l.parents) l.on.items
