use Rattle.std.proofs.Common.{◌≡◌, ◌++◌, drop, map}
use Rattle.std.specs.List.{flat_map, enumerate_from}
use Rattle.ll_fitting.specs.Written.{written}
use Rattle.ll_fitting.specs.Fitting.{fitted_if_any, shown}
use Rattle.ll_fitting.proofs.fitting.fit_layers.Given as goal

-- what is left so far, and what is left of the others, are all
abbrev pub invariant-loop-index : goal.invariant-loop-index
invariant-loop-index l =
    map shown l.left.items ++ flat_map (fitted_if_any l.abi) (enumerate_from l.index (map written (drop l.index l.layers)))
    ≡ flat_map (fitted_if_any l.abi) (enumerate_from 0 (map written l.layers))
