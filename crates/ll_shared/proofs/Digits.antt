-- Bits of numbers by twos: powers of four, and the first two bits in which numbers differ.
use Rattle.std.proofs.Common.{◌≡◌, ◌≢◌, ℕ, ◌+◌, ◌*◌, ◌/◌, ◌%◌, ◌^◌, ◌<◌, ◌⊎◌, inl, inr, refl, zero, suc, sym, ap, ◌∙◌, arith}
use Rattle.std.specs.Prelude.{bit_xor}
use Rattle.std.specs.Int.{bit_at, w64, trailing_zeros}
use Rattle.std.proofs.lemmas.Nat.{mul-pow, pow-add, pow_pos, shr-shr, shr_split, mod_below, xor_lt}
use Rattle.std.proofs.lemmas.Nat.Bits.{bit_at-lt, bit_at_xor, bit_at-zero, bit_at_cat_low, bit_at-trailing_zeros, same_from_bits, same_from_bits_below}

pub four_pow : (k : ℕ) → 2 ^ (2 * k) ≡ 4 ^ k
four_pow k =
    let twice : 2 * k ≡ k + k = omega arith in
    ap (λ n. 2 ^ n) twice ∙ pow-add 2 k k ∙ sym (mul-pow 2 2 k)

pub size_pos : (k : ℕ) → 0 < 4 ^ k
size_pos k = rw (← four_pow k) (pow_pos (2 * k))

-- bits of which the exclusive or is 0 are the same
same_bit : (a b i : ℕ) → bit_at (bit_xor a b) i ≡ 0 → bit_at a i ≡ bit_at b i
same_bit a b i none = omega (arith, bit_at_xor a b i, bit_at-lt a i, bit_at-lt b i)

pub zero_or_pos : (n : ℕ) → (n ≡ 0) ⊎ (0 < n)
zero_or_pos zero = inl refl
zero_or_pos (suc n) = inr (omega arith)

xor_pos : (a b : ℕ) → a ≢ b → 0 < bit_xor a b
xor_pos a b other = elim (zero_or_pos (bit_xor a b)) [
  | inl none ↦ absurd (other (same_from_bits a b (λ i. same_bit a b i (ap (λ n. bit_at n i) none ∙ bit_at-zero i))))
  | inr some ↦ some
]

bit_at_low : (n k i : ℕ) → i < k → bit_at (n % 2 ^ k) i ≡ bit_at n i
bit_at_low n k i below = sym (bit_at_cat_low (n / 2 ^ k) k (n % 2 ^ k) i below) ∙ ap (λ m. bit_at m i) (shr_split n k)

-- numbers with the same bits below a place have the same remainder there
same_low : (k a b : ℕ) → ((i : ℕ) → i < k → bit_at a i ≡ bit_at b i) → a % 2 ^ k ≡ b % 2 ^ k
same_low k a b same = same_from_bits_below k _ _ (mod_below a (2 ^ k) (pow_pos k)) (mod_below b (2 ^ k) (pow_pos k))
    (λ i below. bit_at_low a k i below ∙ same i below ∙ sym (bit_at_low b k i below))

even_or_odd : (i : ℕ) → (i ≡ 2 * (i / 2)) ⊎ (i ≡ 2 * (i / 2) + 1)
even_or_odd i = elim (zero_or_pos (i % 2)) [
  | inl even ↦ inl (omega arith)
  | inr odd ↦ inr (omega arith)
]

even_bit : (n at : ℕ) → bit_at n (2 * at) ≡ n / 4 ^ at % 4 % 2
even_bit n at = rw (four_pow at) (omega arith)

odd_bit : (n at : ℕ) → bit_at n (2 * at + 1) ≡ n / 4 ^ at % 4 / 2
odd_bit n at = rw (← shr-shr n (2 * at) 1, four_pow at) (omega arith)

-- numbers with the same two bits have the same bit at a place of one of the two
same_at : (a b i : ℕ) → a / 4 ^ (i / 2) % 4 ≡ b / 4 ^ (i / 2) % 4 → bit_at a i ≡ bit_at b i
same_at a b i same = elim (even_or_odd i) [
  | inl even ↦ ap (bit_at a) even ∙ even_bit a (i / 2) ∙ ap (λ n. n % 2) same ∙ sym (ap (bit_at b) even ∙ even_bit b (i / 2))
  | inr odd ↦ ap (bit_at a) odd ∙ odd_bit a (i / 2) ∙ ap (λ n. n / 2) same ∙ sym (ap (bit_at b) odd ∙ odd_bit b (i / 2))
]

module _ (a b : ℕ) (other : a ≢ b) (a_fits : a < 2 ^ 64) (b_fits : b < 2 ^ 64) where
  at_first : (trailing_zeros w64 (bit_xor a b) < 64) × (bit_at (bit_xor a b) (trailing_zeros w64 (bit_xor a b)) ≡ 1)
      × ((i : ℕ) → i < trailing_zeros w64 (bit_xor a b) → bit_at (bit_xor a b) i ≡ 0)
  at_first = bit_at-trailing_zeros w64 (bit_xor a b) (xor_pos a b other) (xor_lt 64 a b a_fits b_fits)

  pub first_few : trailing_zeros w64 (bit_xor a b) / 2 < 32
  first_few = omega (arith, at_first.0)

  pub first_agree : a % 4 ^ (trailing_zeros w64 (bit_xor a b) / 2) ≡ b % 4 ^ (trailing_zeros w64 (bit_xor a b) / 2)
  first_agree = rw (← four_pow) (same_low (2 * (trailing_zeros w64 (bit_xor a b) / 2)) a b
      (λ i below. same_bit a b i (at_first.2 i (omega (arith, below)))))

  pub first_differ : a / 4 ^ (trailing_zeros w64 (bit_xor a b) / 2) % 4 ≢ b / 4 ^ (trailing_zeros w64 (bit_xor a b) / 2) % 4
  first_differ same =
      let first = trailing_zeros w64 (bit_xor a b) in
      omega (arith, at_first.1, bit_at_xor a b first, same_at a b first same, bit_at-lt b first)
