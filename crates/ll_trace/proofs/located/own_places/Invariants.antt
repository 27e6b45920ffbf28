use Rattle.std.proofs.Common.{◌≡◌, ◌++◌, drop, get_or, map}
use Rattle.ll_tree.specs.declared.place.Place.TheVariants.{Nowhere}
use Rattle.ll_trace.proofs.located.own_places.Given as goal

-- the places so far, with those of the records that are left, are all
abbrev pub invariant-loop-index : goal.invariant-loop-index
invariant-loop-index l =
    l.own.items ++ map (λ index. get_or l.places index Nowhere) (drop l.index-index l.indices)
    ≡ map (λ index. get_or l.places index Nowhere) l.indices
