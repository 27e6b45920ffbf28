-- Which numbers are marked in a filter, and how a mark more changes that.
use Rattle.std.proofs.Common.{◌≡◌, ℕ, ◌/◌, ◌%◌, ◌^◌, ◌*◌, ◌<◌, true, false, eqb, List, length, get_or, replicate, refl, ap, ◌∙◌, arith, inl, inr, bit_or, w64}
use Rattle.std.specs.Int.{bit_at}
use Rattle.std.proofs.lemmas.Bool.{cases_eq, eq-eqb, ne_eqb}
use Rattle.std.proofs.lemmas.List.{get_or-set_same, get_or-set_other}
use Rattle.std.proofs.lemmas.Nat.Bits.{bit_at-lt, bit_at-zero, bit_at_or, bit_at_set_same, bit_at_set_other}
use Rattle.std.proofs.lemmas.Simd.{get_or-replicate}
use Rattle.std.proofs.Math.ListN.{set}
use Rattle.ll_rules.specs.Filters.{is_marked}

pub none_marked : (number : ℕ) → is_marked (replicate 64 0) number ≡ false
unfolding is_marked
none_marked number =
    let small : number / 64 % 64 < 64 = omega arith in
    ap (λ (word : ℕ). eqb (bit_at word (number % 64)) 1) (get_or-replicate 64 (number / 64 % 64) 0 0 small)
    ∙ ap (λ (bit : ℕ). eqb bit 1) (bit_at-zero (number % 64))

module _ (words : List ℕ) (number : ℕ) (whole : length words ≡ 64) where
  abbrev pub marked : List ℕ
  marked = set words (number / 64 % 64) (bit_or (get_or words (number / 64 % 64) 0) (1 * 2 ^ (number % 64) % 2 ^ 64))

  pub marked_this : is_marked marked number ≡ true
  unfolding is_marked
  marked_this =
      let inside : number / 64 % 64 < length words = omega arith in
      rw (
        get_or-set_same words (number / 64 % 64) (bit_or (get_or words (number / 64 % 64) 0) (1 * 2 ^ (number % 64) % 2 ^ 64)) 0 inside,
        bit_at_set_same w64 (get_or words (number / 64 % 64) 0) (number % 64) (omega arith),
      ) refl

  pub marked_still : (other : ℕ) → is_marked words other ≡ true → is_marked marked other ≡ true
  unfolding is_marked
  marked_still other was =
      let inside : number / 64 % 64 < length words = omega arith in
      let word = get_or words (number / 64 % 64) 0 in
      let more = bit_or word (1 * 2 ^ (number % 64) % 2 ^ 64) in
      elim (cases_eq (other / 64 % 64) (number / 64 % 64)) [
        | inl same_word ↦
            let before : eqb (bit_at word (other % 64)) 1 ≡ true = rw (← same_word) was in
            rw (same_word, get_or-set_same words (number / 64 % 64) more 0 inside)
            (elim (cases_eq (other % 64) (number % 64)) [
              | inl same_bit ↦ rw (same_bit, bit_at_set_same w64 word (number % 64) (omega arith)) refl
              | inr other_bit ↦ rw (bit_at_set_other w64 word (number % 64) (omega arith) (other % 64) other_bit) before
            ])
        | inr other_word ↦ rw (get_or-set_other words (number / 64 % 64) (other / 64 % 64) more 0 other_word) was
      ]

-- a bit that two numbers have not together neither has
pub neither_bit : (a b i : ℕ) → eqb (bit_at (bit_or a b) i) 1 ≡ false → (eqb (bit_at a i) 1 ≡ false) × (eqb (bit_at b i) 1 ≡ false)
neither_bit a b i none = (
  other_than_one (bit_at a i) (λ one. omega (arith, bit_at_or a b i, bit_at-lt b i)),
  other_than_one (bit_at b i) (λ one. omega (arith, bit_at_or a b i, bit_at-lt a i)),
) where
  other_than_one : (bit : ℕ) → (bit ≡ 1 → bit_at (bit_or a b) i ≡ 1) → eqb bit 1 ≡ false
  other_than_one bit together = elim (cases_eq bit 1) [
    | inl one ↦
        let has_it : eqb (bit_at (bit_or a b) i) 1 ≡ true = eq-eqb (bit_at (bit_or a b) i) 1 (together one) in
        absurd cc
    | inr other ↦ ne_eqb bit 1 other
  ]
