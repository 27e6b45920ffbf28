-- In one region the same is granted.
use Rattle.std.proofs.Common.{◌≡◌, ℕ, ◌+◌, Bool, not, ◌&&◌, List, [], ◌∷◌, refl, ap}
use Rattle.std.specs.Prelude.{All}
use Rattle.std.specs.List.{list_any, AllByRecursion}
use Rattle.std.proofs.lemmas.List.Elements.{All-weaker, recursion_from_All}
use Rattle.ll_rights.specs.Rights as files
use Rattle.ll_rights.specs.Rights.{FsRight, has}
use Rattle.ll_lines.specs.Paths.{Path, is_prefix}
use Rattle.ll_rules.specs.Layers.{RulesOn, granted}
use Rattle.ll_rules.specs.Checks.{numbers_from}
use Rattle.ll_rules.proofs.AskedRights.{some_agree}
use Rattle.ll_policy.specs.Verdicts.{SameAbove}

-- ---- lists, where two tests agree on each element

agree_by_recursion : {X : Type 0} (f g : X → Bool) (xs : List X) → AllByRecursion (λ x. f x ≡ g x) xs → list_any f xs ≡ list_any g xs
agree_by_recursion f g [] same = refl
agree_by_recursion f g (x ∷ xs) same = rw (same.0, agree_by_recursion f g xs same.1) refl

list_any-within : {X : Type 0} (f g : X → Bool) (xs : List X) → All (λ x. f x ≡ g x) xs → list_any f xs ≡ list_any g xs
list_any-within f g xs same = agree_by_recursion f g xs (recursion_from_All (λ x. f x ≡ g x) xs same)

numbers_by_recursion : {L : Type 0} (f g : L → Bool) (number : ℕ) (xs : List L) → AllByRecursion (λ x. f x ≡ g x) xs
    → numbers_from f number xs ≡ numbers_from g number xs
unfolding numbers_from
numbers_by_recursion f g number [] same = refl
numbers_by_recursion f g number (x ∷ xs) same = rw (same.0, numbers_by_recursion f g (number + 1) xs same.1) refl

-- the layers that pass one test or the other, where a fact of each layer makes the two agree
pub numbers-within : {L : Type 0} (R : L → Type 0) (f g : L → Bool) → ((layer : L) → R layer → f layer ≡ g layer) → (domain : List L) → All R domain
    → numbers_from f 1 domain ≡ numbers_from g 1 domain
numbers-within R f g agree domain each =
    numbers_by_recursion f g 1 domain (recursion_from_All (λ layer. f layer ≡ g layer) domain (All-weaker R (λ layer. f layer ≡ g layer) agree domain each))

-- ---- one layer

pub granted-alike : (p q : Path) (layer : RulesOn Path) → SameAbove p q layer → (right : FsRight) → granted layer p right ≡ granted layer q right
unfolding granted
granted-alike p q layer same right =
    list_any-within (λ rule. is_prefix rule.0 p && has rule.1 right) (λ rule. is_prefix rule.0 q && has rule.1 right) layer.file_rules
    (All-weaker (λ rule. is_prefix rule.0 p ≡ is_prefix rule.0 q) (λ rule. (is_prefix rule.0 p && has rule.1 right) ≡ (is_prefix rule.0 q && has rule.1 right))
    (λ rule alike. ap (λ (b : Bool). b && has rule.1 right) alike) layer.file_rules same)

-- what is asked and handled and not granted
pub is_lacking-alike : (asked handled given also : FsRight → Bool) → ((right : FsRight) → given right ≡ also right)
    → files.is_lacking asked handled given ≡ files.is_lacking asked handled also
is_lacking-alike asked handled given also same =
    some_agree (λ right. asked right && handled right && not (given right)) (λ right. asked right && handled right && not (also right))
    (λ right. ap (λ (b : Bool). asked right && handled right && not b) (same right))
