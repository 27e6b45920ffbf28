-- Sets of the layers of a domain: the rising lists of their numbers, where the oldest layer has number 1.
-- Source: the kernel's userspace document on Landlock, "Ruleset layers".
use Rattle.std.specs.Prelude.{◌≡◌, ℕ, suc, zero, ◌+◌, ◌*◌, ◌/◌, ◌%◌, ◌^◌, ◌<◌, Bool, false, ◌||◌, ◌==◌, cond, if◌then◌else◌, List, [], ◌∷◌, ◌++◌, sum_by}
use Rattle.std.specs.Int.{bit_at}
use Rattle.std.specs.List.{list_any}
use Rattle.std.proofs.Common.{sym, ◌∙◌, ap, eqb, arith, inl, inr, add_comm}
use Rattle.std.proofs.lemmas.Bool.{cases_eq, eq-eqb, ne_eqb}
use Rattle.std.proofs.lemmas.Nat.{mod-pow-add}
use Rattle.std.proofs.lemmas.Nat.Bits.{bit_at-lt}
use Rattle.std.proofs.lemmas.List.Sums.{sum_by-append}
use Rattle.std.proofs.Math.Nat.{mod-eq_of_lt}
use Rattle.ll_rules.specs.declared.domain.TheConstants.{MOST_LAYERS}
use Rattle.ll_rules.specs.declared.layer_set.LayerSet.TheInside.{Inside}

-- whether a number is in a list
abbrev pub is_among : ℕ → List ℕ → Bool
is_among number numbers = list_any (λ other. other == number) numbers

-- the numbers from 1 to a bound that pass a test, rising
unfoldable pub passing_upto : (ℕ → Bool) → ℕ → List ℕ
passing_upto test zero = []
passing_upto test (suc bound) = passing_upto test bound ++ (if test (suc bound) then suc bound ∷ [] else [])

-- the numbers from 1 to 16 that pass a test
abbrev pub numbers_passing : (ℕ → Bool) → List ℕ
numbers_passing test = passing_upto test MOST_LAYERS

-- the numbers of either set
abbrev pub united_numbers : List ℕ → List ℕ → List ℕ
united_numbers a b = numbers_passing (λ number. is_among number a || is_among number b)

-- ---- how a set is kept: the layer of number n + 1 at bit n

unfoldable pub is_at_bit : ℕ → ℕ → Bool
is_at_bit mask zero = false
is_at_bit mask (suc bit) = bit_at mask bit == 1

-- the numbers that the bits stand for
abbrev pub numbers_of : Inside → List ℕ
numbers_of set = numbers_passing (is_at_bit set.mask)

abbrev pub bit_for : ℕ → ℕ
bit_for zero = 0
bit_for (suc bit) = 2 ^ bit

-- the bits that stand for numbers
unfoldable pub mask_of : List ℕ → ℕ
mask_of numbers = sum_by bit_for numbers

mask_of-one : (mask bound : ℕ) → mask_of (cond (eqb (bit_at mask bound) 1) (suc bound ∷ []) []) ≡ bit_at mask bound * 2 ^ bound
unfolding mask_of
mask_of-one mask bound =
    elim (cases_eq (bit_at mask bound) 1) [
      | inl one ↦ rw (eq-eqb (bit_at mask bound) 1 one, one) (omega arith)
      | inr other ↦
          let none : bit_at mask bound ≡ 0 = omega (arith, bit_at-lt mask bound) in
          rw (ne_eqb (bit_at mask bound) 1 other, none) (omega arith)
    ]

pub mask_of-passing_upto : (mask bound : ℕ) → mask_of (passing_upto (is_at_bit mask) bound) ≡ mask % 2 ^ bound
unfolding mask_of passing_upto is_at_bit
mask_of-passing_upto mask zero = omega arith
mask_of-passing_upto mask (suc bound) =
    let rest : mask_of (passing_upto (is_at_bit mask) bound) ≡ mask % 2 ^ bound = mask_of-passing_upto mask bound in
    let split : mask % 2 ^ (1 + bound) ≡ (mask / 2 ^ bound % 2 ^ 1) * 2 ^ bound + mask % 2 ^ bound = mod-pow-add mask 1 bound in
    let same : 1 + bound ≡ suc bound = omega arith in
    let whole : mask % 2 ^ suc bound ≡ bit_at mask bound * 2 ^ bound + mask % 2 ^ bound = rw (← same) split in
    sum_by-append bit_for (passing_upto (is_at_bit mask) bound) (cond (eqb (bit_at mask bound) 1) (suc bound ∷ []) [])
    ∙ ap (λ (n : ℕ). n + mask_of (cond (eqb (bit_at mask bound) 1) (suc bound ∷ []) [])) rest
    ∙ ap (λ (n : ℕ). mask % 2 ^ bound + n) (mask_of-one mask bound)
    ∙ add_comm (mask % 2 ^ bound) (bit_at mask bound * 2 ^ bound)
    ∙ sym whole

-- the bits of the numbers that bits stand for are those bits
pub kept_again : (set : Inside) → set.mask < 2 ^ 16 → record { mask = mask_of (numbers_of set) } ≡ set
kept_again set fits = ap (λ (n : ℕ). let kept : Inside = record { mask = n } in kept) (mask_of-passing_upto set.mask MOST_LAYERS ∙ mod-eq_of_lt fits)
