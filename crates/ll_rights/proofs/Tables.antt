-- Sets of rights by any table of rights, by their bits.
use Rattle.std.proofs.Common.{◌≡◌, ℕ, ◌+◌, ◌^◌, ◌<◌, ◌≤◌, Bool, true, false, not, ◌&&◌, ◌||◌}
use Rattle.std.proofs.Common.{eqb, List, [], ◌∷◌, ◌++◌, Option, map, filter, get_or, find, refl, sym}
use Rattle.std.proofs.Common.{ap, ◌∙◌, arith, bit_and, inl, inr}
use Rattle.std.specs.Prelude.{bytes_eq, unwrap_or}
use Rattle.std.specs.Int.{w32, bit_not}
use Rattle.std.specs.List.{list_any, list_all, range_with_len}
use Rattle.std.proofs.lemmas.Bool.{cases_Bool, eqb-true, eq-eqb}
use Rattle.std.proofs.lemmas.Map.Views.{any-filter_same}
use Rattle.std.proofs.lemmas.Nat.{and_comm}
use Rattle.ll_rights.specs.Sets.{Row, first_named, has_bit}
use Rattle.ll_rights.specs.Supported.{bits_of, bits_without}
use Rattle.ll_rights.proofs.Bitwise.{any_none, all_each, has_bit-or, has_bit-power, has_bit-without, has_bit-and, without-twice, zero_bit, known_below}
use Rattle.ll_rights.proofs.Bitwise.{is_zero_by_bits, is_lacking_by_bits, is_within_by_bits}

-- what holds of each right of a table: its bit finds it, some named right has its bit unless it is `other`, which has the last
abbrev pub Stands : {R : Type 0} → (R → Row) → List R → R → R → Type 0
Stands row named other right =
    (get_or (named ++ other ∷ []) (row right).bit other ≡ right)
    × (list_any (λ one. eqb (row right).bit (row one).bit) named ≡ not (eqb (row right).bit (row other).bit))
    × ((row right).bit ≤ (row other).bit)

-- the rights of a table have the bits 0, 1, .. in its order, and `other` has the last
pub record IsTable {R : Type 0} (row : R → Row) (named : List R) (other : R) : Type 0 where
  pub numbered : map (λ right. (row right).bit) (named ++ other ∷ []) ≡ range_with_len 0 ((row other).bit + 1)
  pub each : (right : R) → Stands row named other right
  pub fits : (row other).bit ≤ 32

-- the first that is named among what the code has is the first of what stands for these
first_named_by : {C R : Type 0} (row : R → Row) (right_of : C → R) (other : C) (text : List ℕ) (among : List C)
    → right_of (unwrap_or (find (λ code. bytes_eq text (row (right_of code)).name) among) other) ≡ first_named row (right_of other) (map right_of among) text
first_named_by row right_of other text [] = refl
first_named_by row right_of other text (code ∷ others) = elim (cases_Bool (bytes_eq text (row (right_of code)).name)) [
  | inl same ↦ rw same refl
  | inr differs ↦ rw differs (first_named_by row right_of other text others)
]

pub named_by : {C R : Type 0} (row : R → Row) (right_of : C → R) (other : C) (rights : List R) (text : List ℕ) (among : List C) (found : Option C)
    → map right_of among ≡ rights → found ≡ find (λ code. bytes_eq text (row (right_of code)).name) among
    → right_of (unwrap_or found other) ≡ first_named row (right_of other) rights text
named_by row right_of other rights text among found each is =
    ap (λ one. right_of (unwrap_or one other)) is ∙ first_named_by row right_of other text among
    ∙ ap (λ all. first_named row (right_of other) all text) each

any-map : {X Y : Type 0} (test : Y → Bool) (f : X → Y) (xs : List X) → list_any (λ x. test (f x)) xs ≡ list_any test (map f xs)
any-map test f [] = refl
any-map test f (x ∷ xs) = ap (λ b. test (f x) || b) (any-map test f xs)

all-map : {X Y : Type 0} (test : Y → Bool) (f : X → Y) (xs : List X) → list_all (λ x. test (f x)) xs ≡ list_all test (map f xs)
all-map test f [] = refl
all-map test f (x ∷ xs) = ap (λ b. test (f x) && b) (all-map test f xs)

module _ {R : Type 0} {row : R → Row} {named : List R} {other : R} (is : IsTable row named other) where
  abbrev bit : R → ℕ
  bit right = (row right).bit

  abbrev count : ℕ
  count = bit other

  abbrev has : ℕ → R → Bool
  has bits right = has_bit count bits (bit right)

  abbrev is_right : R → R → Bool
  is_right a b = eqb (bit a) (bit b)

  abbrev all : List R
  all = named ++ other ∷ []

  -- rights with the same bit are the same
  pub same_right : (a b : R) → is_right a b ≡ true → a ≡ b
  same_right a b e = sym (is.each a).0 ∙ ap (λ n. get_or all n other) (eqb-true (bit a) (bit b) e) ∙ (is.each b).0

  -- ---- sets as the code has them

  -- a set of one right has that right and no other
  pub has-only : (right one : R) → has (2 ^ bit one) right ≡ is_right right one
  has-only right one = has_bit-power count (bit one) (bit right) (is.each one).2 (is.each right).2

  pub is_empty : (bits : ℕ) → eqb bits 0 ≡ not (list_any (has bits) all)
  is_empty bits = is_zero_by_bits count bits ∙ ap not (sym (any-map (has_bit count bits) bit all ∙ ap (list_any (has_bit count bits)) is.numbered))

  pub is_within : (set whole : ℕ) → has whole other ≡ false → eqb (bit_and set whole) set ≡ list_all (λ right. not (has set right) || has whole right) all
  is_within set whole known =
      let test : ℕ → Bool = λ bit. not (has_bit count set bit) || has_bit count whole bit in
      is_within_by_bits count set whole known ∙ sym (all-map test bit all ∙ ap (list_all test) is.numbered)

  -- ---- the bits of some of the named rights

  has-bits : (right : R) (rights : List R) → has (bits_of row rights) right ≡ list_any (is_right right) rights
  has-bits right [] = zero_bit count (bit right)
  has-bits right (one ∷ rights) = has_bit-or count (2 ^ bit one) (bits_of row rights) (bit right) ∙ rw (has-only right one, has-bits right rights) refl

  -- a test of the named rights finds those that pass it
  pub has-chosen : (test : R → Bool) (right : R) → has (bits_of row (filter test named)) right ≡ (test right && not (is_right right other))
  has-chosen test right =
      has-bits right (filter test named)
      ∙ any-filter_same (is_right right) test (test right) (λ one e. ap test (sym (same_right right one e))) named
      ∙ ap (λ b. test right && b) (is.each right).1

  itself : is_right other other ≡ true
  itself = eq-eqb count count refl

  and_false : (b c : Bool) → c ≡ true → (b && not c) ≡ false
  and_false true c e = ap not e
  and_false false c e = refl

  chosen-known : (test : R → Bool) → has (bits_of row (filter test named)) other ≡ false
  chosen-known test = has-chosen test other ∙ and_false (test other) (is_right other other) itself

  chosen-low : (test : R → Bool) → bits_of row (filter test named) < 2 ^ count
  chosen-low test = known_below count (bits_of row (filter test named)) (chosen-known test)

  -- known rights within others share all bits with them
  shared : (set whole : ℕ) → has whole other ≡ false → ((right : R) → (not (has set right) || has whole right) ≡ true) → bit_and set whole ≡ set
  shared set whole known each =
      eqb-true (bit_and set whole) set (is_within set whole known ∙ all_each (λ right. not (has set right) || has whole right) each all)

  -- the same known rights are the same bits
  pub same_known : (a b : ℕ) → has a other ≡ false → ((right : R) → has a right ≡ has b right) → a ≡ b
  same_known a b known same =
      sym (shared a b (sym (same other) ∙ known) (λ right. ap (λ c. not c || has b right) (same right) ∙ either (has b right)))
      ∙ and_comm a b ∙ shared b a known (λ right. ap (λ c. not (has b right) || c) (same right) ∙ either (has b right))
    where
      either : (b : Bool) → (not b || b) ≡ true
      either true = refl
      either false = refl

  -- what is wanted, handled and not granted
  pub is_lacking : (wanted handled granted : ℕ) → granted < 2 ^ 32 → has handled other ≡ false
      → not (eqb (bit_and (bit_and wanted handled) (bit_not w32 granted)) 0)
      ≡ list_any (λ right. has wanted right && has handled right && not (has granted right)) all
  is_lacking wanted handled granted narrow known =
      let test : ℕ → Bool = λ bit. has_bit count wanted bit && has_bit count handled bit && not (has_bit count granted bit) in
      is_lacking_by_bits count wanted handled granted is.fits narrow known ∙ sym (any-map test bit all ∙ ap (list_any test) is.numbered)

  -- ---- rights taken out of a set

  module _ (knows : R → Bool) where
    abbrev unknown : ℕ
    unknown = bits_of row (filter (λ right. not (knows right)) named)

    abbrev supported : ℕ → ℕ
    supported bits = bits_without bits unknown

    left : (b k o : Bool) → (b && not (not k && not o)) ≡ (b && (k || o))
    left false k o = refl
    left true true o = refl
    left true false true = refl
    left true false false = refl

    pub has-supported : (bits : ℕ) (right : R) → has (supported bits) right ≡ (has bits right && (knows right || is_right right other))
    has-supported bits right =
        has_bit-without count bits unknown (bit right) (chosen-low (λ right. not (knows right)))
        ∙ ap (λ b. has bits right && not b) (has-chosen (λ right. not (knows right)) right) ∙ left (has bits right) (knows right) (is_right right other)

    nothing : (b k o : Bool) → (b && not (k || o)) ≡ false → (b && (not k && not o)) ≡ false
    nothing false k o e = refl
    nothing true true o e = refl
    nothing true false true e = refl
    nothing true false false e = e

    -- nothing is taken out where what is named is known
    pub supported-known : (bits : ℕ) → ((right : R) → (has bits right && not (knows right || is_right right other)) ≡ false) → supported bits ≡ bits
    supported-known bits known =
        let none : (right : R) → has (bit_and bits unknown) right ≡ false = λ right.
        has_bit-and count bits unknown (bit right) (chosen-low (λ right. not (knows right)))
        ∙ ap (λ b. has bits right && b) (has-chosen (λ right. not (knows right)) right)
        ∙ nothing (has bits right) (knows right) (is_right right other) (known right) in
        let zero_is : bit_and bits unknown ≡ 0 =
        eqb-true (bit_and bits unknown) 0 (is_empty (bit_and bits unknown) ∙ ap not (any_none (has (bit_and bits unknown)) none all)) in
        omega (arith, zero_is)

    -- bits that lack just what is known: those of all named rights without those of the known ones
    pub supported-lacking : (known taken set kept : ℕ) → has known other ≡ false → ((right : R) → has known right ≡ knows right)
        → taken ≡ bits_without (bits_of row named) known → kept ≡ bits_without set taken → kept ≡ supported set
    supported-lacking known taken set kept no_other same is_taken is_kept =
        is_kept ∙ ap (bits_without set) is_taken
        ∙ ap (bits_without set) (same_known (bits_without (bits_of row named) known) unknown
        (has_lacking other ∙ and_false (not (knows other)) (is_right other other) itself)
        (λ right. has_lacking right ∙ sym (has-chosen (λ right. not (knows right)) right)))
      where
        swapped : (a b : Bool) → (a && b) ≡ (b && a)
        swapped true true = refl
        swapped true false = refl
        swapped false true = refl
        swapped false false = refl

        has_lacking : (right : R) → has (bits_without (bits_of row named) known) right ≡ (not (knows right) && not (is_right right other))
        has_lacking right =
            has_bit-without count (bits_of row named) known (bit right) (known_below count known no_other)
            ∙ ap (λ b. b && not (has known right)) (has-bits right named ∙ (is.each right).1)
            ∙ ap (λ b. not (is_right right other) && not b) (same right) ∙ swapped (not (is_right right other)) (not (knows right))

  -- what fewer known rights leave of what more left
  pub supported-older : (older newer : R → Bool) → ((right : R) → (not (older right) || newer right) ≡ true) →
      (bits : ℕ) → bits_without (bits_without bits (unknown newer)) (unknown older) ≡ bits_without bits (unknown older)
  supported-older older newer more bits = without-twice bits (unknown newer) (unknown older)
      (shared (unknown newer) (unknown older) (chosen-known (λ right. not (older right)))
      (λ right. rw (has-chosen (λ right. not (newer right)) right, has-chosen (λ right. not (older right)) right)
      (fewer (older right) (newer right) (is_right right other) (more right))))
    where
      fewer : (o n c : Bool) → (not o || n) ≡ true → (not (not n && not c) || (not o && not c)) ≡ true
      fewer o true c e = refl
      fewer true false c e = absurd cc
      fewer false false true e = refl
      fewer false false false e = refl
