use Rattle.std.proofs.Common.{◌≡◌, ◌++◌, drop, map}
use Rattle.ll_fitting.specs.Written.{written}
use Rattle.ll_calling.specs.PolicyLines.{written_in}
use Rattle.ll_calling.proofs.policy.all_written.Given as goal

-- the layers so far, and the others, are all
abbrev pub invariant-loop-layer : goal.invariant-loop-layer
invariant-loop-layer l =
    map written l.bare.items ++ map written_in (drop l.layer-index l.layers) ≡ map written_in l.layers
