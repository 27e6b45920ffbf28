-- Numbers above those of all objects that some layers grant on.
use Rattle.std.proofs.Common.{◌≡◌, ℕ, ◌+◌, ◌<◌, ◌≤◌, List, length, take, get_or, subst, arith}
use Rattle.std.specs.Prelude.{All}
use Rattle.std.specs.Ordering.{ord_max, nat_cmp}
use Rattle.std.proofs.lemmas.List.{take_all}
use Rattle.std.proofs.lemmas.List.Elements.{All-more, All-weaker, All-nil}
use Rattle.ll_policy.specs.Chains.{Granting}
use Rattle.ll_policy.specs.Choices.{AreBelow}

pub none_below : (bound : ℕ) (layers : List Granting) → AreBelow bound (take 0 layers)
unfolding AreBelow
none_below bound layers = All-nil (λ (layer : Granting). All (λ (object : ℕ). object < bound) layer.grants)

pub below_more : (old size new : ℕ) (layers : List Granting) (i : ℕ) (d : Granting) → i < length layers → old ≤ new → size ≤ new
    → AreBelow old (take i layers) → All (λ object. object < size) (get_or layers i d).grants → AreBelow new (take (i + 1) layers)
unfolding AreBelow
below_more old size new layers i d within one other so_far more =
    All-more (λ (layer : Granting). All (λ (object : ℕ). object < new) layer.grants) layers i d within
    (All-weaker (λ (layer : Granting). All (λ (object : ℕ). object < old) layer.grants) (λ (layer : Granting). All (λ (object : ℕ). object < new) layer.grants)
    (λ layer each. All-weaker (λ (object : ℕ). object < old) (λ (object : ℕ). object < new) (λ object below. omega (arith, below, one)) layer.grants each)
    (take i layers) so_far)
    (All-weaker (λ (object : ℕ). object < size) (λ (object : ℕ). object < new) (λ object below. omega (arith, below, other)) (get_or layers i d).grants more)

pub below_all : (bound : ℕ) (layers : List Granting) (i : ℕ) → length layers ≤ i → AreBelow bound (take i layers) → AreBelow bound layers
below_all bound layers i past so_far = subst (λ (some : List Granting). AreBelow bound some) (take_all i layers past) so_far

pub larger : (a b most : ℕ) → most ≡ ord_max nat_cmp a b → (a ≤ most) × (b ≤ most)
larger a b most is = (grind (arith, is), grind (arith, is))
