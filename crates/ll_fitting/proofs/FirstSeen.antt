-- What is told of things as they are seen.
use Rattle.std.proofs.Common.{◌≡◌, refl, ap, ℕ, ◌+◌, List, [], ◌∷◌, map, Option}
use Rattle.std.specs.List.{enumerate_from}
use Rattle.std.specs.Option.{option_or}
use Rattle.ll_fitting.specs.Misfits.{first_of}

-- the first of things as they are seen, each with its index
pub first_seen : {X Y M : Type 0} (see : X → Y) (tell : ℕ × Y → Option M) (n : ℕ) (xs : List X)
    → first_of (λ numbered. tell (numbered.0, see numbered.1)) (enumerate_from n xs) ≡ first_of tell (enumerate_from n (map see xs))
unfolding first_of
first_seen see tell n [] = refl
first_seen see tell n (x ∷ xs) = ap (option_or (tell (n, see x))) (first_seen see tell (n + 1) xs)

-- and where nothing is told of the index
pub first_unnumbered : {X Y M : Type 0} (see : X → Y) (tell : Y → Option M) (n : ℕ) (xs : List X)
    → first_of (λ numbered. tell (see numbered.1)) (enumerate_from n xs) ≡ first_of tell (map see xs)
unfolding first_of
first_unnumbered see tell n [] = refl
first_unnumbered see tell n (x ∷ xs) = ap (option_or (tell (see x))) (first_unnumbered see tell (n + 1) xs)
