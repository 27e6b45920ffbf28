use Rattle.std.proofs.Common.{◌≡◌, ◌∷◌, ◌++◌, drop, map}
use Rattle.std.specs.List.{flat_map}
use Rattle.ll_fitting.specs.Fitting.{shown}
use Rattle.ll_enforcing.specs.declared.calls.Call.TheVariants.{NoNewPrivs}
use Rattle.ll_enforcing.specs.Calls.{calls_of_layer}
use Rattle.ll_enforcing.proofs.calls.calls_of.Given as goal

-- the calls so far, and those for the other layers, are all
abbrev pub invariant-loop-left : goal.invariant-loop-left
invariant-loop-left l =
    l.calls.items ++ flat_map calls_of_layer (map shown (drop l.left-index l.layers)) ≡ NoNewPrivs ∷ flat_map calls_of_layer (map shown l.layers)
