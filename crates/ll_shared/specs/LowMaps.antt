-- What a map has whose low keys are in leaves, read as a function from keys to values.
-- Source: none; the maps of this program alone.
use Rattle.std.specs.Prelude.{ℕ, ◌/◌, ◌%◌, Option, None, get_or, option_and_then, option_map, slice_get, ltb, if◌then◌else◌}
use Rattle.std.specs.FinMap.{get}
use Rattle.ll_shared.specs.declared.leaf.Leaf.{Leaf}
use Rattle.ll_shared.specs.declared.leaf.TheConstants.{WIDTH}
use Rattle.ll_shared.specs.declared.low_map.TheConstants.{LOW}
use Rattle.ll_shared.specs.declared.low_map.LeafMap.{LeafMap}

-- the map as the program names it
abbrev pub LowMap : Type 0 → Type 0
LowMap V = LeafMap (Leaf V) V

-- the leaf at an index, if there is one
abbrev pub leaf_at : {V : Type 0} → LowMap V → ℕ → Option (Leaf V)
leaf_at map index = option_map (λ shared. shared.value) (slice_get map.low.items index)

-- the value at an index of a leaf, if there is one
abbrev pub in_leaf : {V : Type 0} → Option (Leaf V) → ℕ → Option V
in_leaf {V} leaf index = option_and_then (λ (one : Leaf V). get_or one.values index None) leaf

-- the value of a key, if it has one
abbrev pub value_of : {V : Type 0} → LowMap V → ℕ → Option V
value_of map key = if ltb key LOW then in_leaf (leaf_at map (key / WIDTH)) (key % WIDTH) else get map.high key
