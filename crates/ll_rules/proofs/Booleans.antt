-- Tests of the elements of a list.
use Rattle.std.proofs.Common.{◌≡◌, Bool, true, false, ◌&&◌, ◌||◌, List, [], ◌∷◌, map, refl, sym, ap, ◌∙◌}
use Rattle.std.specs.List.{list_any, list_all}

pub or_false : (b : Bool) → (b || false) ≡ b
or_false true = refl
or_false false = refl

pub or_assoc : (a b c : Bool) → ((a || b) || c) ≡ (a || (b || c))
or_assoc true b c = refl
or_assoc false b c = refl

-- four tests in another order
pub or_cross : (a b c d : Bool) → ((a || b) || (c || d)) ≡ ((a || c) || (b || d))
or_cross true b c d = refl
or_cross false true true d = refl
or_cross false true false d = refl
or_cross false false c d = refl

pub and_or : (a b c : Bool) → (a && (b || c)) ≡ ((a && b) || (a && c))
and_or true b c = refl
and_or false b c = refl

pub or_and : (a b c : Bool) → ((a || b) && c) ≡ ((a && c) || (b && c))
or_and true true true = refl
or_and true true false = refl
or_and true false c = sym (or_false c)
or_and false b c = refl

pub and_true : (b : Bool) → (b && true) ≡ b
and_true true = refl
and_true false = refl

pub and_none : (b : Bool) → (b && false) ≡ false
and_none true = refl
and_none false = refl

-- two tests that agree on each element
pub list_any-agree : {X : Type 0} (f g : X → Bool) → ((x : X) → f x ≡ g x) → (xs : List X) → list_any f xs ≡ list_any g xs
list_any-agree f g same [] = refl
list_any-agree f g same (x ∷ xs) = rw (same x, list_any-agree f g same xs) refl

-- one of two tests
pub list_any-or : {X : Type 0} (f g : X → Bool) (xs : List X) → list_any (λ x. f x || g x) xs ≡ (list_any f xs || list_any g xs)
list_any-or f g [] = refl
list_any-or f g (x ∷ xs) = ap (λ (b : Bool). (f x || g x) || b) (list_any-or f g xs) ∙ or_cross (f x) (g x) (list_any f xs) (list_any g xs)

pub list_any-map : {X Y : Type 0} (f : Y → Bool) (h : X → Y) (xs : List X) → list_any f (map h xs) ≡ list_any (λ x. f (h x)) xs
list_any-map f h [] = refl
list_any-map f h (x ∷ xs) = ap (λ (b : Bool). f (h x) || b) (list_any-map f h xs)

pub list_all-agree : {X : Type 0} (f g : X → Bool) → ((x : X) → f x ≡ g x) → (xs : List X) → list_all f xs ≡ list_all g xs
list_all-agree f g same [] = refl
list_all-agree f g same (x ∷ xs) = rw (same x, list_all-agree f g same xs) refl
