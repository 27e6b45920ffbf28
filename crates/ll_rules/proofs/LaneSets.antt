-- The sets of rights in lanes, and what the vector operations make of them.
use Rattle.std.proofs.Common.{◌≡◌, ℕ, zero, suc, ◌-◌, ◌%◌, ◌^◌, ◌<◌, ◌≤◌, lit<, lit≤, subst, Bool, true, false, not, ◌&&◌, ◌||◌, cond, eqb, List, [], ◌∷◌, map}
use Rattle.std.proofs.Common.{length, get_or, replicate, refl, sym, ap, ◌∙◌, arith, inl, inr, bit_and, bit_or, w32, Fits}
use Rattle.std.specs.Int.{bit_at, bit_not}
use Rattle.std.specs.Int.Bits.{and_self}
use Rattle.std.proofs.lemmas.Bool.{cases_lt, lt-leb}
use Rattle.std.proofs.lemmas.Nat.{and_le_r}
use Rattle.std.proofs.lemmas.Nat.Bits.{bit_at_and, bit_at-lt, bit_at_ones}
use Rattle.std.proofs.lemmas.List.{get_or-map, get_or_past, length-map}
use Rattle.std.proofs.lemmas.Simd.{length-zip2, get_or-zip2, map-map, zip2_splat, bitmask_splat, bit_mask_l, mask_l-lt}
use lib.Lanes.{zip2, Each1, mask_l, top}
use Rattle.ll_rights.specs.declared.fs.Fs.{Fs}
use Rattle.ll_rights.specs.Sets.{has_bit}
use Rattle.ll_rights.specs.Rights.{FsRight, has, other, is_empty, bit_of}
use Rattle.ll_rights.proofs.Bitwise.{has_bit-named, has_bit-other, has_bit-or, has_bit-and, has_bit-lacking}
use Rattle.ll_rights.proofs.Sets.{fs_table, fs_is_empty}
use Rattle.ll_rules.specs.declared.domain.TheConstants.{MOST_LAYERS}
use Rattle.ll_rules.proofs.RightSets.{has_nothing}
use Rattle.ll_rules.proofs.LayerNumbers.{passing_upto-agree}
use Rattle.ll_rules.specs.LayerNumbers.{is_at_bit, numbers_passing}
use Rattle.ll_rules.specs.Lanes.{named_bits, set_of, lane, is_filled}

-- sixteen lanes of 32 bits
abbrev pub AreLanes : List ℕ → Type 0
AreLanes lanes = (length lanes ≡ MOST_LAYERS) × Each1 (Fits w32) lanes

each_fits : (xs : List ℕ) (index : ℕ) → Each1 (Fits w32) xs → get_or xs index 0 < 2 ^ 32
each_fits [] index h = lit< tt
each_fits (x ∷ xs) zero h = h.0.fits
each_fits (x ∷ xs) (suc index) h = each_fits xs index h.1

pub lane_fits : (xs : List ℕ) (index : ℕ) → AreLanes xs → get_or xs index 0 < 2 ^ 32
lane_fits xs index are = each_fits xs index are.1

-- ---- one lane

pub named_bit : (x : ℕ) (right : FsRight) → bit_of right < bit_of other → has (set_of x) right ≡ eqb (bit_at x (bit_of right)) 1
unfolding has
named_bit x right named =
    let index = bit_of right in
    rw (has_bit-named (bit_of other) (bit_and x named_bits) index named, bit_at_and x named_bits index, bit_at_ones (bit_of other) index named)
    (ap (λ (bit : ℕ). eqb bit 1) (omega (arith, bit_at-lt x index)))

-- a lane has no right without a name
pub unnamed_none : (x : ℕ) (right : FsRight) → bit_of other ≤ bit_of right → has (set_of x) right ≡ false
unfolding has
unnamed_none x right unnamed =
    let low : bit_and x named_bits < 2 ^ bit_of other = omega (arith, and_le_r x named_bits) in
    has_bit-other (bit_of other) (bit_and x named_bits) (bit_of right) unnamed ∙ lt-leb (2 ^ bit_of other) (bit_and x named_bits) low

-- what a lane has, by the bits of the rights that have a name
by_named : (x : ℕ) (right : FsRight) (is : Bool) → (bit_of right < bit_of other → eqb (bit_at x (bit_of right)) 1 ≡ is)
    → (bit_of other ≤ bit_of right → is ≡ false) → has (set_of x) right ≡ is
by_named x right is named unnamed = elim (cases_lt (bit_of right) (bit_of other)) [
  | inl lt ↦ named_bit x right lt ∙ named lt
  | inr le ↦ unnamed_none x right le ∙ sym (unnamed le)
]

pub nothing_in : (x : ℕ) (right : FsRight) → x ≡ 0 → has (set_of x) right ≡ false
nothing_in x right none = ap (λ (bits : ℕ). has (set_of bits) right) none ∙ has_nothing right

-- of an empty lane nothing is left
pub nothing_left : (x : ℕ) (right : FsRight) (a : Bool) → x ≡ 0 → has (set_of 0) right ≡ (has (set_of x) right && a)
nothing_left x right a none = nothing_in 0 right refl ∙ sym (ap (λ (w : Bool). w && a) (nothing_in x right none))

and_same : (b c : Bool) → (b && b && c) ≡ (b && c)
and_same true c = refl
and_same false c = refl

pub without_bits : (x g : ℕ) (right : FsRight) → x < 2 ^ 32 → g < 2 ^ 32
    → has (set_of (bit_and x (bit_not w32 g))) right ≡ (has (set_of x) right && not (has (set_of g) right))
without_bits x g right fits taken_fits =
    let index = bit_of right in
    by_named (bit_and x (bit_not w32 g)) right (has (set_of x) right && not (has (set_of g) right))
    (λ named.
    let inside : index < 32 = omega arith in
    let taken : has_bit 32 (bit_and x (bit_not w32 g)) index ≡ (has_bit 32 x index && not (has_bit 32 g index)) =
    ap (λ (bits : ℕ). has_bit 32 (bit_and bits (bit_not w32 g)) index) (sym (and_self x))
    ∙ has_bit-lacking 32 x x g index (lit≤ tt) taken_fits fits
    ∙ and_same (has_bit 32 x index) (not (has_bit 32 g index)) in
    rw (
      named_bit x right named,
      named_bit g right named,
      ← has_bit-named 32 (bit_and x (bit_not w32 g)) index inside,
      ← has_bit-named 32 x index inside,
      ← has_bit-named 32 g index inside,
    ) taken)
    (λ unnamed. rw (unnamed_none x right unnamed) refl)

pub both_bits : (x w : ℕ) (right : FsRight) → w < 2 ^ 32 → has (set_of (bit_and x w)) right ≡ (has (set_of x) right && has (set_of w) right)
both_bits x w right fits =
    let index = bit_of right in
    by_named (bit_and x w) right (has (set_of x) right && has (set_of w) right)
    (λ named.
    let inside : index < 32 = omega arith in
    rw (
      named_bit x right named,
      named_bit w right named,
      ← has_bit-named 32 (bit_and x w) index inside,
      ← has_bit-named 32 x index inside,
      ← has_bit-named 32 w index inside,
    )
    (has_bit-and 32 x w index fits))
    (λ unnamed. rw (unnamed_none x right unnamed) refl)

pub either_bits : (x y : ℕ) (right : FsRight) → has (set_of (bit_or x y)) right ≡ (has (set_of x) right || has (set_of y) right)
either_bits x y right =
    let named_count = bit_of other in
    let index = bit_of right in
    by_named (bit_or x y) right (has (set_of x) right || has (set_of y) right)
    (λ named.
    rw (
      named_bit x right named,
      named_bit y right named,
      ← has_bit-named named_count (bit_or x y) index named,
      ← has_bit-named named_count x index named,
      ← has_bit-named named_count y index named,
    )
    (has_bit-or named_count x y index))
    (λ unnamed. rw (unnamed_none x right unnamed, unnamed_none y right unnamed) refl)

-- the named rights of a set as a lane
pub named_of : (set : Fs) (right : FsRight) → bit_of right < bit_of other → has (set_of set.0) right ≡ has set right
unfolding has
named_of set right named = named_bit set.0 right named ∙ sym (has_bit-named (bit_of other) set.0 (bit_of right) named)

-- what the named rights of a set and a lane have in common is what the set and the lane have
pub alike_in_lane : (x w : ℕ) (set : Fs) (right : FsRight) (test : Bool → Bool)
    → ((one : FsRight) → bit_of one < bit_of other → has (set_of w) one ≡ has set one)
    → (has (set_of x) right && test (has (set_of w) right)) ≡ (has (set_of x) right && test (has set right))
alike_in_lane x w set right test same = elim (cases_lt (bit_of right) (bit_of other)) [
  | inl named ↦ ap (λ (b : Bool). has (set_of x) right && test b) (same right named)
  | inr unnamed ↦ rw (unnamed_none x right unnamed) refl
]

-- known rights as a lane
pub known_bits : (set : Fs) (w : ℕ) (right : FsRight) → ((one : FsRight) → bit_of one < bit_of other → has (set_of w) one ≡ has set one) → has set other ≡ false
    → has (set_of w) right ≡ has set right
unfolding has
known_bits set w right same known = elim (cases_lt (bit_of right) (bit_of other)) [
  | inl named ↦ same right named
  | inr unnamed ↦
      let last : bit_of right ≡ bit_of other = omega (arith, (fs_table.each right).2) in
      unnamed_none w right unnamed ∙ sym (ap (has_bit (bit_of other) set.0) last ∙ known)
]

-- ---- all lanes

-- a row that is made lane by lane of two others
module _ (f : ℕ → ℕ → ℕ) (xs ys : List ℕ) (whole : length xs ≡ MOST_LAYERS) (also : length ys ≡ MOST_LAYERS) (index : ℕ) (right : FsRight) (is : Bool) where
  pub by_lane : (index < MOST_LAYERS → has (set_of (f (get_or xs index 0) (get_or ys index 0))) right ≡ is) → (MOST_LAYERS ≤ index → is ≡ false)
      → has (lane (zip2 f xs ys) index) right ≡ is
  by_lane inside past = elim (cases_lt index MOST_LAYERS) [
    | inl lt ↦ ap (λ (bits : ℕ). has (set_of bits) right) (get_or-zip2 f xs ys index 0 0 0 (omega arith) (omega arith)) ∙ inside lt
    | inr le ↦ nothing_in (get_or (zip2 f xs ys) index 0) right (get_or_past (zip2 f xs ys) index 0 (omega (arith, length-zip2 f xs ys (whole ∙ sym also))))
        ∙ sym (past le)
  ]

pub nothing_past : (xs : List ℕ) (index : ℕ) (right : FsRight) → length xs ≡ MOST_LAYERS → MOST_LAYERS ≤ index → has (lane xs index) right ≡ false
nothing_past xs index right whole past = nothing_in (get_or xs index 0) right (get_or_past xs index 0 (omega arith))

pub lanes_either : (xs ys : List ℕ) → AreLanes xs → AreLanes ys → (index : ℕ) (right : FsRight)
    → has (lane (zip2 bit_or xs ys) index) right ≡ (has (lane xs index) right || has (lane ys index) right)
lanes_either xs ys whole also index right =
    by_lane bit_or xs ys whole.0 also.0 index right (has (lane xs index) right || has (lane ys index) right)
    (λ inside. either_bits (get_or xs index 0) (get_or ys index 0) right)
    (λ past. rw (nothing_past xs index right whole.0 past, nothing_past ys index right also.0 past) refl)

pub lanes_without : (xs gs : List ℕ) → AreLanes xs → AreLanes gs → (index : ℕ) (right : FsRight)
    → has (lane (zip2 bit_and xs (map (bit_not w32) gs)) index) right ≡ (has (lane xs index) right && not (has (lane gs index) right))
lanes_without xs gs whole also index right =
    by_lane bit_and xs (map (bit_not w32) gs) whole.0 (length-map gs (bit_not w32) ∙ also.0) index right
    (has (lane xs index) right && not (has (lane gs index) right))
    (λ inside.
    rw (get_or-map (bit_not w32) gs index 0 0 (omega (arith, also.0)))
    (without_bits (get_or xs index 0) (get_or gs index 0) right (lane_fits xs index whole) (lane_fits gs index also)))
    (λ past. rw (nothing_past xs index right whole.0 past) refl)

-- ---- which lanes are filled

one_of : (b : Bool) → eqb (cond b 1 0) 1 ≡ b
one_of true = refl
one_of false = refl

-- whether a lane has a bit of a right with a name
abbrev pub is_named : ℕ → Bool
is_named bits = not (eqb (bit_and bits named_bits) 0)

-- the mask that code makes of the lanes that have such a bit
abbrev pub mask_made : List ℕ → ℕ → ℕ
mask_made xs named =
    mask_l (map (top 31) (zip2 (λ a b. cond (not (eqb a b)) (2 ^ 32 - 1) 0) (zip2 bit_and xs (replicate MOST_LAYERS named)) (replicate MOST_LAYERS 0)))
    % 2 ^ 64

pub mask_is : (xs : List ℕ) (named : ℕ) → length xs ≡ MOST_LAYERS → named ≡ named_bits → mask_made xs named ≡ mask_l (map is_named xs)
mask_is xs named whole same =
    let kept : ℕ → ℕ = λ bits. bit_and bits named in
    let long : length (map kept xs) ≡ MOST_LAYERS = length-map xs kept ∙ whole in
    rw (zip2_splat bit_and xs MOST_LAYERS named whole) (bitmask_splat w32 (λ a b. not (eqb a b)) (map kept xs) MOST_LAYERS 0 long (lit≤ tt)
    ∙ ap mask_l (map-map (λ x. not (eqb x 0)) kept xs) ∙ rw same refl)

pub mask_small : (xs : List ℕ) → length xs ≡ MOST_LAYERS → mask_l (map is_named xs) < 2 ^ 16
mask_small xs whole = subst (λ (n : ℕ). mask_l (map is_named xs) < 2 ^ n) (length-map xs is_named ∙ whole) (mask_l-lt (map is_named xs))

pub mask_bits : (xs : List ℕ) (index : ℕ) → length xs ≡ MOST_LAYERS → index < MOST_LAYERS
    → eqb (bit_at (mask_l (map is_named xs)) index) 1 ≡ not (is_empty (lane xs index))
mask_bits xs index whole inside =
    ap (λ (bit : ℕ). eqb bit 1) (bit_mask_l (map is_named xs) index)
    ∙ one_of (get_or (map is_named xs) index false)
    ∙ get_or-map is_named xs index 0 false (omega arith)
    ∙ ap not (fs_is_empty (lane xs index))

pub filled_by_mask : (xs : List ℕ) (mask : ℕ) → ((index : ℕ) → index < MOST_LAYERS → eqb (bit_at mask index) 1 ≡ not (is_empty (lane xs index)))
    → numbers_passing (is_at_bit mask) ≡ numbers_passing (is_filled xs)
unfolding is_filled is_at_bit
filled_by_mask xs mask same = passing_upto-agree (is_at_bit mask) (is_filled xs) MOST_LAYERS each where
  each : (number : ℕ) → 0 < number → number ≤ MOST_LAYERS → is_at_bit mask number ≡ is_filled xs number
  each zero pos le = absurd (omega arith)
  each (suc index) pos le = same index (omega arith)
