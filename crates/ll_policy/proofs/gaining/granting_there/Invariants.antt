use Rattle.std.proofs.Common.{◌≡◌, ◌++◌, drop}
use Rattle.std.specs.Prelude.{filter}
use Rattle.ll_policy.specs.Chains.{is_among}
use Rattle.ll_policy.proofs.gaining.granting_there.Given as goal

-- those so far, and those of what is left, are all
abbrev pub invariant-loop-layer : goal.invariant-loop-layer
invariant-loop-layer l =
    l.found.items ++ filter (λ layer. is_among l.directory layer.grants) (drop l.layer-index l.layers) ≡ filter
    (λ layer. is_among l.directory layer.grants) l.layers
