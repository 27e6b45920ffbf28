-- Places in four bytes.
-- Source: docs/DECISIONS.md, "Time and memory".
use Rattle.std.specs.Prelude.{ℕ, ◌<◌, ◌-◌, ◌^◌, ◌==◌, nat_lt, if◌then◌else◌}
use Rattle.ll_tree.specs.declared.place.Place.{Place}
use Rattle.ll_tree.specs.declared.place.Place.TheVariants.{Node, Gap, Nowhere}

-- the place that a number stands for: the largest of 32 bits for none, those below the highest bit for nodes, the others for gaps
abbrev pub place_in : ℕ → Place
place_in bits =
    if bits == 2 ^ 32 - 1 then Nowhere else if nat_lt bits (2 ^ 31) then Node (record { 0 = bits }) else Gap (record { 0 = bits - 2 ^ 31 })

-- the number of a place has few bits
abbrev pub IsSmall : Place → Type 0
IsSmall (Node node) = node.0 < 2 ^ 31
IsSmall (Gap node) = node.0 < 2 ^ 31 - 1
IsSmall Nowhere = Unit {0}
