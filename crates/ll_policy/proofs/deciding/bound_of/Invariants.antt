use Rattle.std.proofs.Common.{take}
use Rattle.ll_policy.specs.Choices.{AreBelow}
use Rattle.ll_policy.proofs.deciding.bound_of.Given as goal

-- the layers so far grant on nothing from the number on
abbrev pub invariant-loop-layer : goal.invariant-loop-layer
invariant-loop-layer l = AreBelow l.bound (take l.layer-index l.layers)
