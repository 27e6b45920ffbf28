-- Which numbers are in a set of layers, and how a set changes with its bits.
use Rattle.std.proofs.Common.{◌≡◌, ◌≢◌, ℕ, zero, suc, ◌-◌, ◌*◌, ◌/◌, ◌%◌, ◌^◌, ◌<◌, ◌≤◌, Bool, true, false, ◌&&◌, ◌||◌, eqb, cond, List, [], ◌∷◌, ◌++◌, length}
use Rattle.std.proofs.Common.{refl, sym, ap, ◌∙◌, arith, inl, inr, bit_and, bit_or, append-nil, ◌⊎◌}
use Rattle.std.specs.Prelude.{All}
use Rattle.std.specs.Int.{bit_at}
use Rattle.std.proofs.lemmas.Bool.{cases_eq, eq-eqb, ne_eqb, eqb-true, false≢true, or_cases, or_right, false_from_ne_true}
use Rattle.std.proofs.lemmas.Nat.Bits.{bit_at-pow_same, bit_at-pow_other, shr_and_one}
use Rattle.std.proofs.lemmas.List.Folds.{list_any-append}
use Rattle.std.proofs.lemmas.List.Elements.{All-head, All-tail}
use Rattle.std.proofs.Math.Nat.{mod-eq_of_lt}
use Rattle.std.proofs.lemmas.Nat.{one_shl}
use Rattle.ll_rights.proofs.Bitwise.{has_bit-named, has_bit-or}
use Rattle.ll_rules.specs.declared.domain.TheConstants.{MOST_LAYERS}
use Rattle.ll_rules.proofs.Booleans.{or_false, and_none, and_true}
use Rattle.ll_rules.specs.declared.layer_set.LayerSet.TheInside.{Inside}
use Rattle.ll_rules.specs.LayerNumbers.{is_among, passing_upto, numbers_passing, united_numbers, is_at_bit, numbers_of, mask_of, mask_of-passing_upto}

is_among-one : (b : Bool) (m n : ℕ) → is_among n (cond b (m ∷ []) []) ≡ (b && eqb m n)
is_among-one true m n = or_false (eqb m n)
is_among-one false m n = refl

step_of : (test : ℕ → Bool) (bound number : ℕ)
    → is_among number (passing_upto test (suc bound)) ≡ (is_among number (passing_upto test bound) || (test (suc bound) && eqb (suc bound) number))
unfolding passing_upto
step_of test bound number =
    list_any-append (λ other. eqb other number) (passing_upto test bound) (cond (test (suc bound)) (suc bound ∷ []) [])
    ∙ ap (λ (b : Bool). is_among number (passing_upto test bound) || b) (is_among-one (test (suc bound)) (suc bound) number)

pub is_among-above : (test : ℕ → Bool) (bound number : ℕ) → bound < number → is_among number (passing_upto test bound) ≡ false
unfolding passing_upto
is_among-above test zero number lt = refl
is_among-above test (suc bound) number lt =
    step_of test bound number
    ∙ rw (is_among-above test bound number (omega arith), ne_eqb (suc bound) number (omega arith)) (and_none (test (suc bound)))

pub is_among-zero : (test : ℕ → Bool) (bound : ℕ) → is_among 0 (passing_upto test bound) ≡ false
unfolding passing_upto
is_among-zero test zero = refl
is_among-zero test (suc bound) =
    step_of test bound 0 ∙ ap (λ (b : Bool). b || (test (suc bound) && eqb (suc bound) 0)) (is_among-zero test bound)
    ∙ ap (λ (b : Bool). test (suc bound) && b) (ne_eqb (suc bound) 0 (λ same. absurd (omega arith)))
    ∙ and_none (test (suc bound))

-- a number from 1 to the bound is there if it passes
pub is_among-passing_upto : (test : ℕ → Bool) (bound number : ℕ) → 0 < number → number ≤ bound → is_among number (passing_upto test bound) ≡ test number
is_among-passing_upto test zero number pos le = absurd (omega arith)
is_among-passing_upto test (suc bound) number pos le = elim (cases_eq (suc bound) number) [
  | inl same ↦
      step_of test bound number
      ∙ rw (is_among-above test bound number (omega arith), eq-eqb (suc bound) number same, same) (and_true (test number))
  | inr differs ↦
      step_of test bound number
      ∙ rw (is_among-passing_upto test bound number pos (omega arith), ne_eqb (suc bound) number differs, and_none (test (suc bound)))
      (or_false (test number))
]

-- two tests that agree from 1 to the bound pass the same numbers
pub passing_upto-agree : (t u : ℕ → Bool) (bound : ℕ) → ((number : ℕ) → 0 < number → number ≤ bound → t number ≡ u number)
    → passing_upto t bound ≡ passing_upto u bound
unfolding passing_upto
passing_upto-agree t u zero same = refl
passing_upto-agree t u (suc bound) same =
    rw (passing_upto-agree t u bound (λ number pos le. same number pos (omega arith)), same (suc bound) (omega arith) (omega arith)) refl

-- one number more, above the others
pub passing_upto-one_more : (t u : ℕ → Bool) (bound one : ℕ) → 0 < one → one ≤ bound
    → ((number : ℕ) → 0 < number → number < one → u number ≡ t number) → u one ≡ true
    → ((number : ℕ) → one ≤ number → number ≤ bound → t number ≡ false) → ((number : ℕ) → one < number → number ≤ bound → u number ≡ false)
    → passing_upto u bound ≡ passing_upto t bound ++ one ∷ []
unfolding passing_upto
passing_upto-one_more t u zero one pos le below here none none_above = absurd (omega arith)
passing_upto-one_more t u (suc bound) one pos le below here none none_above = elim (cases_eq (suc bound) one) [
  | inl same ↦
      rw (passing_upto-agree u t bound (λ number p q. below number p (omega arith)), same, here, none one (omega arith) (omega arith))
      (ap (λ (xs : List ℕ). xs ++ one ∷ []) (sym (append-nil (passing_upto t bound))))
  | inr differs ↦
      rw (
        none_above (suc bound) (omega arith) (omega arith),
        none (suc bound) (omega arith) (omega arith),
        append-nil (passing_upto u bound),
        append-nil (passing_upto t bound),
      )
      (passing_upto-one_more t u bound one pos (omega arith) below here (λ number p q. none number p (omega arith))
      (λ number p q. none_above number p (omega arith)))
]

-- ---- sets kept as bits

pub has_kept : (set : Inside) (number : ℕ) → 0 < number → number ≤ MOST_LAYERS → is_among number (numbers_of set) ≡ eqb (bit_at set.mask (number - 1)) 1
unfolding is_at_bit
has_kept set zero pos le = absurd (omega arith)
has_kept set (suc bit) pos le =
    let same : suc bit - 1 ≡ bit = omega arith in
    rw same (is_among-passing_upto (is_at_bit set.mask) MOST_LAYERS (suc bit) pos le)

-- the test that code makes of one bit
pub has_by_shift : (set : Inside) (number : ℕ) → 0 < number → number ≤ MOST_LAYERS
    → eqb (bit_and (set.mask / 2 ^ (number - 1)) 1) 1 ≡ is_among number (numbers_of set)
has_by_shift set number pos le =
    ap (λ (bit : ℕ). eqb bit 1) (shr_and_one set.mask (number - 1)) ∙ sym (has_kept set number pos le)

pub has_outside : (set : Inside) (number : ℕ) → (number ≡ 0) ⊎ (MOST_LAYERS < number) → false ≡ is_among number (numbers_of set)
has_outside set number (inl none) = rw none (sym (is_among-zero (is_at_bit set.mask) MOST_LAYERS))
has_outside set number (inr above) = sym (is_among-above (is_at_bit set.mask) MOST_LAYERS number above)

-- no bit, no number
pub empty_kept : (set : Inside) → set.mask < 2 ^ 16 → eqb set.mask 0 ≡ eqb (length (numbers_of set)) 0
unfolding mask_of passing_upto is_at_bit
empty_kept set fits =
    let again : mask_of (numbers_of set) ≡ set.mask = mask_of-passing_upto set.mask MOST_LAYERS ∙ mod-eq_of_lt fits in
    elim (cases_eq set.mask 0) [
      | inl zero_is ↦ rw zero_is refl
      | inr some ↦ rw (ne_eqb set.mask 0 some) (no_numbers (numbers_of set) set.mask again some)
    ]
  where
    no_numbers : (numbers : List ℕ) (mask : ℕ) → mask_of numbers ≡ mask → (mask ≡ 0 → ⊥) → false ≡ eqb (length numbers) 0
    no_numbers [] mask again some = absurd (some (sym again))
    no_numbers (x ∷ xs) mask again some = sym (ne_eqb (length (x ∷ xs)) 0 (λ same. absurd (omega arith)))

is_at_bit-or : (a b number : ℕ) → is_at_bit (bit_or a b) number ≡ (is_at_bit a number || is_at_bit b number)
unfolding is_at_bit
is_at_bit-or a b zero = refl
is_at_bit-or a b (suc bit) =
    let last : bit < suc bit = omega arith in
    rw (← has_bit-named (suc bit) (bit_or a b) bit last, ← has_bit-named (suc bit) a bit last, ← has_bit-named (suc bit) b bit last)
    (has_bit-or (suc bit) a b bit)

-- the bits of two sets together
pub union_kept : (a b : Inside) → numbers_passing (is_at_bit (bit_or a.mask b.mask)) ≡ united_numbers (numbers_of a) (numbers_of b)
union_kept a b =
    passing_upto-agree (is_at_bit (bit_or a.mask b.mask)) (λ number. is_among number (numbers_of a) || is_among number (numbers_of b)) MOST_LAYERS
    (λ number pos le.
    rw (is_among-passing_upto (is_at_bit a.mask) MOST_LAYERS number pos le, is_among-passing_upto (is_at_bit b.mask) MOST_LAYERS number pos le)
    (is_at_bit-or a.mask b.mask number))

is_at_bit-power_same : (bit : ℕ) → is_at_bit (2 ^ bit) (suc bit) ≡ true
unfolding is_at_bit
is_at_bit-power_same bit = rw (bit_at-pow_same bit) refl

is_at_bit-power_other : (bit number : ℕ) → (number ≡ suc bit → ⊥) → is_at_bit (2 ^ bit) number ≡ false
unfolding is_at_bit
is_at_bit-power_other bit zero differs = refl
is_at_bit-power_other bit (suc other) differs =
    let apart : other ≢ bit = λ same. differs (ap suc same) in
    rw (bit_at-pow_other bit other apart) refl

below_from_among : (numbers : List ℕ) (number bound : ℕ) → is_among number numbers ≡ true → All (λ other. other < bound) numbers → number < bound
below_from_among [] number bound among all = absurd (false≢true among)
below_from_among (x ∷ xs) number bound among all = elim (or_cases (eqb x number) (is_among number xs) among) [
  | inl same ↦ omega (arith, eqb-true x number same, All-head (λ (other : ℕ). other < bound) x xs all)
  | inr later ↦ below_from_among xs number bound later (All-tail (λ (other : ℕ). other < bound) x xs all)
]

-- one bit more, above the others
pub noted_kept : (set : Inside) (bit : ℕ) → suc bit ≤ MOST_LAYERS → All (λ other. other < suc bit) (numbers_of set)
    → numbers_passing (is_at_bit (bit_or set.mask (2 ^ bit))) ≡ numbers_of set ++ suc bit ∷ []
noted_kept set bit le above =
    let t : ℕ → Bool = is_at_bit set.mask in
    let none : (number : ℕ) → suc bit ≤ number → number ≤ MOST_LAYERS → t number ≡ false = λ number p q.
    false_from_ne_true (t number) (λ there.
    let below : number < suc bit =
    below_from_among (numbers_of set) number (suc bit) (is_among-passing_upto t MOST_LAYERS number (omega arith) q ∙ there) above in
    omega arith) in
    passing_upto-one_more t (is_at_bit (bit_or set.mask (2 ^ bit))) MOST_LAYERS (suc bit) (omega arith) le
    (λ number p q. rw (is_at_bit-or set.mask (2 ^ bit) number, is_at_bit-power_other bit number (λ same. omega arith)) (or_false (t number)))
    (rw (is_at_bit-or set.mask (2 ^ bit) (suc bit), is_at_bit-power_same bit) (or_right (t (suc bit)) true refl))
    none
    (λ number p q. rw (
      is_at_bit-or set.mask (2 ^ bit) number,
      is_at_bit-power_other bit number (λ same. omega arith),
      none number (omega arith) q,
    ) refl)

-- ---- a set by its bits again

pub numbers_again : (set : Inside) → numbers_of set ≡ numbers_passing (λ number. is_among number (numbers_of set))
numbers_again set =
    passing_upto-agree (is_at_bit set.mask) (λ number. is_among number (numbers_of set)) MOST_LAYERS
    (λ number pos le. sym (is_among-passing_upto (is_at_bit set.mask) MOST_LAYERS number pos le))

pub mask_kept : (set : Inside) (numbers : List ℕ) → numbers_of set ≡ numbers → set.mask < 2 ^ 16 → set.mask ≡ mask_of numbers
mask_kept set numbers same fits = sym (ap mask_of (sym same) ∙ mask_of-passing_upto set.mask MOST_LAYERS ∙ mod-eq_of_lt fits)

-- one bit more, as code sets it
pub noted_by_shift : (set : Inside) (number : ℕ) → 0 < number → number ≤ MOST_LAYERS → All (λ other. other < number) (numbers_of set)
    → numbers_passing (is_at_bit (bit_or set.mask (1 * 2 ^ (number - 1) % 65536))) ≡ numbers_of set ++ number ∷ []
noted_by_shift set zero pos le above = absurd (omega arith)
noted_by_shift set (suc bit) pos le above =
    let same : suc bit - 1 ≡ bit = omega arith in
    let small : bit < MOST_LAYERS = omega arith in
    let power : 1 * 2 ^ bit % 2 ^ 16 ≡ 2 ^ bit = one_shl bit MOST_LAYERS small in
    rw (same, power) (noted_kept set bit le above)
