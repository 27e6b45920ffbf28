-- A list of which only what differs from another list, the base, is kept: the changes, and the indices where they stand,
-- in rising order. A list without changes is its base.
-- Source: the code's own.
use Rattle.std.specs.Prelude.{◌≤◌, ◌==◌, ⊤, ℕ, suc, List, [], ◌∷◌, Option, None, Some, if◌then◌else◌, option_map, slice_get, unwrap_or}
use Rattle.std.specs.Option.{option_and_then}

-- indices that rise from a bound on
unfoldable pub Rise : ℕ → List ℕ → Type 0
Rise bound [] = ⊤
Rise bound (index ∷ indices) = (bound ≤ index) × Rise (suc index) indices

-- the position of an index among others
unfoldable pub where_in : ℕ → List ℕ → Option ℕ
where_in index [] = None
where_in index (first ∷ indices) = if first == index then Some 0 else option_map suc (where_in index indices)

-- the change at an index, if there is one
abbrev pub change_at : {A : Type 0} → ℕ → List ℕ → List A → Option A
change_at index indices changes = option_and_then (slice_get changes) (where_in index indices)

-- a list whose first element stands at an index: where there is a change it stands there, and else the base's element
unfoldable pub overlay_from : {A : Type 0} → ℕ → List A → List ℕ → List A → List A
overlay_from index [] indices changes = []
overlay_from index (stays ∷ base) indices changes = unwrap_or (change_at index indices changes) stays ∷ overlay_from (suc index) base indices changes

-- The whole list, by the base, the indices and the changes; it is as long as the base.
abbrev pub overlay : {A : Type 0} → List A → List ℕ → List A → List A
overlay base indices changes = overlay_from 0 base indices changes
