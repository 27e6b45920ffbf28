-- What a closure tells of the things of a list, each with its index.
use Rattle.std.specs.Prelude.{◌≡◌, ℕ, ◌<◌, ◌^◌, Option}
use Rattle.std.specs.Fn.{Shared, AnyResult}
use denote.Ref.{Bor}

-- what a closure tells of a thing with an index, as it is taken, is what a function gives of them
abbrev pub TellsAs : {F T M V : Type 0} → Shared F (ℕ × (Bor T × Unit {0})) (Option M) → F → (Option M → V) → (ℕ × T → V) → Type 0
TellsAs {F} {T} g tell taken gives =
    (index : ℕ) → index < 2 ^ 64 → (thing : Bor T) → AnyResult g tell (index, (thing, tt)) (λ told. taken told ≡ gives (index, thing.now))
