-- Leaves and what is in them.
use Rattle.std.proofs.Common.{◌≡◌, ◌<◌, ◌==◌, ◌+◌, ◌*◌, ◌/◌, ◌%◌, ℕ, zero, suc, List, [], ◌∷◌, Bool, true, false, Option, Some, None, inl, inr}
use Rattle.std.proofs.Common.{length, get_or, slice_get, slice_set, option_map, if◌then◌else◌, refl, ap, sym, ◌∙◌, arith}
use Rattle.std.specs.Prelude.{ltb}
use Rattle.std.proofs.Math.Nat.{div-add-mod}
use Rattle.std.proofs.lemmas.Bool.{eq-eqb, ne_eqb}
use Rattle.std.proofs.lemmas.Bool.Decides.{eqb_tells}
use Rattle.std.specs.FinMap.{empty, get, get-empty}
use Rattle.std.specs.Ordering.{nat_cmp}
use Rattle.ll_shared.specs.LowMaps.{LowMap, in_leaf, leaf_at, value_of}
use Rattle.ll_shared.specs.declared.leaf.Leaf.{Leaf}

-- what a key has in a map without an entry, low or not
open_nowhere : {V : Type 0} (map : LowMap V) (key : ℕ) (test : Bool) → map.low.items ≡ [] → map.high ≡ empty
    → (if test then in_leaf (leaf_at map (key / 16)) (key % 16) else get map.high key) ≡ None
open_nowhere map key true low high = rw low refl
open_nowhere map key false low high = rw high (get-empty nat_cmp key)

-- a map without an entry
pub nothing_there : {V : Type 0} (map : LowMap V) (key : ℕ) → map.low.items ≡ [] → map.high ≡ empty → value_of map key ≡ None
nothing_there map key = open_nowhere map key (ltb key 512)

-- a leaf in place of another
pub leaf_set : {V X : Type 0} (of : X → Leaf V) (xs : List X) (x : X) (index slot : ℕ) → index < length xs
    → in_leaf (option_map of (slice_get (slice_set xs index x) index)) slot ≡ get_or (of x).values slot None
leaf_set of [] x index slot within = absurd (omega (arith, within))
leaf_set of (first ∷ xs) x zero slot within = refl
leaf_set of (first ∷ xs) x (suc index) slot within = leaf_set of xs x index slot (omega (arith, within))

-- the other leaves stay
pub leaf_kept : {X : Type 0} (xs : List X) (x : X) (index other : ℕ) → (other ≡ index → ⊥) → slice_get (slice_set xs index x) other ≡ slice_get xs other
leaf_kept [] x index other ne = refl
leaf_kept (first ∷ xs) x zero zero ne = absurd (ne refl)
leaf_kept (first ∷ xs) x zero (suc other) ne = refl
leaf_kept (first ∷ xs) x (suc index) zero ne = refl
leaf_kept (first ∷ xs) x (suc index) (suc other) ne = leaf_kept xs x index other (λ same. ne (ap suc same))

-- a leaf that is there
pub leaf_there : {V X : Type 0} (of : X → Leaf V) (xs : List X) (old : X) (index slot : ℕ) → slice_get xs index ≡ Some old
    → in_leaf (option_map of (slice_get xs index)) slot ≡ get_or (of old).values slot None
leaf_there of xs old index slot is = rw is refl

-- two numbers with one quotient and one remainder by sixteen are one
pub one_number : (m n : ℕ) → m / 16 ≡ n / 16 → m % 16 ≡ n % 16 → m ≡ n
one_number m n quotients remainders =
    sym (div-add-mod m 16) ∙ ap (λ k. 16 * k + m % 16) quotients ∙ ap (λ k. 16 * (n / 16) + k) remainders ∙ div-add-mod n 16

module _ {V X : Type 0} (of : X → Leaf V) (xs : List X) (x old : X) (key q : ℕ) (value : Option V) (within : key / 16 < length xs)
    (was : slice_get xs (key / 16) ≡ Some old)
    (put : (p : ℕ) → get_or (of x).values p None ≡ (if p == key % 16 then value else get_or (of old).values p None)) where
  -- what is at a low descriptor once one of them was given an value
  pub put_leaf : in_leaf (option_map of (slice_get (slice_set xs (key / 16) x) (q / 16))) (q % 16)
      ≡ (if key == q then value else in_leaf (option_map of (slice_get xs (q / 16))) (q % 16))
  put_leaf = elim (eqb_tells key q) [
    | inl same ↦ rw (same.0, sym same.1) (leaf_set of xs x (key / 16) (key % 16) within ∙ put (key % 16) ∙ rw (eq-eqb (key % 16) (key % 16) refl) refl)
    | inr other ↦ elim (eqb_tells (q / 16) (key / 16)) [
      | inl one ↦
          let apart : (q % 16 ≡ key % 16) → ⊥ = λ is. other.1 (sym (one_number q key one.1 is)) in
          rw (other.0, one.1) (leaf_set of xs x (key / 16) (q % 16) within ∙ put (q % 16) ∙ rw (ne_eqb (q % 16) (key % 16) apart) refl
          ∙ sym (leaf_there of xs old (key / 16) (q % 16) was))
      | inr two ↦ rw (other.0, leaf_kept xs x (key / 16) (q / 16) two.1) refl
    ]
  ]

-- what is at any key once one leaf was replaced by one that has the same
pub kept_leaf : {V X : Type 0} (of : X → Leaf V) (xs : List X) (x old : X) (index i slot : ℕ) → index < length xs → slice_get xs index ≡ Some old
    → ((p : ℕ) → get_or (of x).values p None ≡ get_or (of old).values p None)
    → in_leaf (option_map of (slice_get (slice_set xs index x) i)) slot ≡ in_leaf (option_map of (slice_get xs i)) slot
kept_leaf of xs x old index i slot within was same = elim (eqb_tells i index) [
  | inl one ↦ rw one.1 (leaf_set of xs x index slot within ∙ same slot ∙ sym (leaf_there of xs old index slot was))
  | inr two ↦ rw (leaf_kept xs x index i two.1) refl
]
