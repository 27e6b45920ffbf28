-- Members of a set of bits, bit by bit: what `|`, `&` and `!` make of them.
use Rattle.std.proofs.Common.{◌≡◌, ◌≢◌, ℕ, zero, suc, ◌+◌, ◌-◌, ◌%◌, ◌^◌, ◌<◌, ◌≤◌, min, max, Bool, true, false, not, ◌&&◌, ◌||◌, eqb, leb, List, [], ◌∷◌}
use Rattle.std.proofs.Common.{length, get_or, refl, sym, ap, subst, ◌∙◌, arith, inl, inr, bit_and, bit_or, bit_xor}
use Rattle.std.specs.Int.{bit_at, w32, bit_not}
use Rattle.std.specs.List.{list_any, list_all, range_with_len}
use Rattle.std.proofs.lemmas.Bool.{cases_Bool, cases_lt, cases_eq, and_parts, leb-false, le-leb, lt-leb, lt-ltb, le-ltb, eqb-false, eq-eqb, ne_eqb, false≢true}
use Rattle.std.specs.Int.Bits.{and_self, xor_assoc, xor_self, xor_add_and}
use Rattle.std.proofs.lemmas.Nat.{pow_pos, pow_below, or_lt, xor_lt, le_or_l, le_or_r, and_le_l, and_le_r, and_assoc, and_comm, and-not}
use Rattle.std.proofs.lemmas.Nat.Bits.{bit_at_or, bit_at_and, bit_at_xor, bit_at_not, bit_at-lt, bit_at-zero, bit_at-pow_same, bit_at-pow_other, same_from_bits}
use Rattle.std.proofs.lemmas.Nat.Bits.{same_from_bits_below}
use Rattle.std.proofs.lemmas.List.FromFn.{get_or-range_with_len, length-range_with_len}
use Rattle.std.proofs.lemmas.List.Folds.{list_any-from_Any}
use Rattle.ll_rights.specs.Sets.{has_bit}
use Rattle.ll_rights.specs.Supported.{bits_without}

-- of two bits, the larger is 1 where either is, and the smaller where both are
pub one_of_bits : (x y : ℕ) → x < 2 → y < 2 → (eqb (max x y) 1 ≡ (eqb x 1 || eqb y 1)) × (eqb (min x y) 1 ≡ (eqb x 1 && eqb y 1))
one_of_bits zero zero p q = (refl, refl)
one_of_bits zero (suc zero) p q = (refl, refl)
one_of_bits (suc zero) zero p q = (refl, refl)
one_of_bits (suc zero) (suc zero) p q = (refl, refl)
one_of_bits (suc (suc x)) y p q = absurd (omega arith)
one_of_bits x (suc (suc y)) p q = absurd (omega arith)

one_of_not : (x : ℕ) → x < 2 → eqb (1 - x) 1 ≡ not (eqb x 1)
one_of_not zero p = refl
one_of_not (suc zero) p = refl
one_of_not (suc (suc x)) p = absurd (omega arith)

-- ---- each bit

pub has_bit-named : (named bits bit : ℕ) → bit < named → has_bit named bits bit ≡ eqb (bit_at bits bit) 1
has_bit-named named bits bit lt = rw (lt-ltb bit named lt) refl

pub has_bit-other : (named bits bit : ℕ) → named ≤ bit → has_bit named bits bit ≡ leb (2 ^ named) bits
has_bit-other named bits bit le = rw (le-ltb bit named le) refl

-- a word of one bit has that bit alone
pub has_bit-power : (named one bit : ℕ) → one ≤ named → bit ≤ named → has_bit named (2 ^ one) bit ≡ eqb bit one
has_bit-power named one bit one_in bit_in = elim (cases_lt bit named) [
  | inl lt ↦
      rw (has_bit-named named (2 ^ one) bit lt)
      (elim (cases_eq bit one) [
        | inl same ↦ rw (same, bit_at-pow_same one) (sym (eq-eqb one one refl))
        | inr differs ↦ rw (bit_at-pow_other one bit differs, ne_eqb bit one differs) refl
      ])
  | inr le ↦
      let last : bit ≡ named = omega arith in
      rw (has_bit-other named (2 ^ one) bit le)
      (elim (cases_eq bit one) [
        | inl same ↦ rw (eq-eqb bit one same) (le-leb (2 ^ named) (2 ^ one) (rw (← same, last) (omega arith)))
        | inr differs ↦ rw (ne_eqb bit one differs) (lt-leb (2 ^ named) (2 ^ one) (pow_below one named (omega arith)))
      ])
]

or_above : (named a b : ℕ) → leb (2 ^ named) (bit_or a b) ≡ (leb (2 ^ named) a || leb (2 ^ named) b)
or_above named a b = elim (cases_lt a (2 ^ named)) [
  | inl low_a ↦ elim (cases_lt b (2 ^ named)) [
    | inl low_b ↦ rw (lt-leb (2 ^ named) (bit_or a b) (or_lt named a b low_a low_b), lt-leb (2 ^ named) a low_a, lt-leb (2 ^ named) b low_b) refl
    | inr high_b ↦ rw (le-leb (2 ^ named) (bit_or a b) (omega (arith, le_or_r a b)), lt-leb (2 ^ named) a low_a, le-leb (2 ^ named) b high_b) refl
  ]
  | inr high_a ↦ rw (le-leb (2 ^ named) (bit_or a b) (omega (arith, le_or_l a b)), le-leb (2 ^ named) a high_a) refl
]

pub has_bit-or : (named a b bit : ℕ) → has_bit named (bit_or a b) bit ≡ (has_bit named a bit || has_bit named b bit)
has_bit-or named a b bit = elim (cases_lt bit named) [
  | inl lt ↦ rw (has_bit-named named (bit_or a b) bit lt, has_bit-named named a bit lt, has_bit-named named b bit lt, bit_at_or a b bit)
      ((one_of_bits (bit_at a bit) (bit_at b bit) (bit_at-lt a bit) (bit_at-lt b bit)).0)
  | inr le ↦ rw (has_bit-other named (bit_or a b) bit le, has_bit-other named a bit le, has_bit-other named b bit le) (or_above named a b)
]

-- what is known has no bit from the first unnamed one on
pub known_below : (named bits : ℕ) → has_bit named bits named ≡ false → bits < 2 ^ named
known_below named bits e = leb-false (2 ^ named) bits (sym (has_bit-other named bits named (omega arith)) ∙ e)

and_false : (x y : Bool) → y ≡ false → (x && y) ≡ false
and_false true y e = e
and_false false y e = refl

pub has_bit-lacking : (named wanted handled granted bit : ℕ) → named ≤ 32 → granted < 2 ^ 32 → handled < 2 ^ named
    → has_bit named (bit_and (bit_and wanted handled) (bit_not w32 granted)) bit
    ≡ (has_bit named wanted bit && has_bit named handled bit && not (has_bit named granted bit))
has_bit-lacking named wanted handled granted bit narrow fits known = elim (cases_lt bit named) [
  | inl lt ↦
      let within : bit < 32 = omega arith in
      rw (
        has_bit-named named (bit_and (bit_and wanted handled) (bit_not w32 granted)) bit lt,
        has_bit-named named wanted bit lt,
        has_bit-named named handled bit lt,
        has_bit-named named granted bit lt,
        bit_at_and (bit_and wanted handled) (bit_not w32 granted) bit,
        bit_at_and wanted handled bit,
        bit_at_not w32 granted bit fits within,
      )
      ((one_of_bits (min (bit_at wanted bit) (bit_at handled bit)) (1 - bit_at granted bit) (omega (arith, bit_at-lt wanted bit)) (omega arith)).1
      ∙ ap (λ (b : Bool). b && eqb (1 - bit_at granted bit) 1)
      ((one_of_bits (bit_at wanted bit) (bit_at handled bit) (bit_at-lt wanted bit) (bit_at-lt handled bit)).1)
      ∙ ap (λ (b : Bool). (eqb (bit_at wanted bit) 1 && eqb (bit_at handled bit) 1) && b) (one_of_not (bit_at granted bit) (bit_at-lt granted bit)))
  | inr le ↦
      let low : bit_and (bit_and wanted handled) (bit_not w32 granted) < 2 ^ named =
      omega (arith, and_le_l (bit_and wanted handled) (bit_not w32 granted), and_le_r wanted handled) in
      let nothing : has_bit named handled bit ≡ false = has_bit-other named handled bit le ∙ lt-leb (2 ^ named) handled known in
      has_bit-other named (bit_and (bit_and wanted handled) (bit_not w32 granted)) bit le
      ∙ lt-leb (2 ^ named) (bit_and (bit_and wanted handled) (bit_not w32 granted)) low
      ∙ sym (ap (λ (b : Bool). b && not (has_bit named granted bit)) (and_false (has_bit named wanted bit) (has_bit named handled bit) nothing))
]

-- ---- all bits

-- a test that no bit passes, bit by bit
pub any_false : (f : ℕ → Bool) (n bit : ℕ) → list_any f (range_with_len 0 n) ≡ false → bit < n → f bit ≡ false
any_false f n bit none lt = elim (cases_Bool (f bit)) [
  | inl holds ↦
      let eq : get_or (range_with_len 0 n) bit bit ≡ bit = get_or-range_with_len 0 n bit bit lt ∙ omega arith in
      let some = list_any-from_Any f (range_with_len 0 n) (bit, bit, omega (arith, length-range_with_len 0 n), eq, holds) in
      absurd (false≢true (sym none ∙ some))
  | inr fails ↦ fails
]

all_true : (f : ℕ → Bool) (xs : List ℕ) (k : ℕ) → list_all f xs ≡ true → k < length xs → f (get_or xs k 0) ≡ true
all_true f [] k e lt = absurd (omega arith)
all_true f (x ∷ xs) zero e lt = (and_parts (f x) (list_all f xs) e).0
all_true f (x ∷ xs) (suc k) e lt = all_true f xs k (and_parts (f x) (list_all f xs) e).1 (omega arith)

-- a test that all bits pass, bit by bit
pub all_at : (f : ℕ → Bool) (n bit : ℕ) → list_all f (range_with_len 0 n) ≡ true → bit < n → f bit ≡ true
all_at f n bit e lt =
    let eq : get_or (range_with_len 0 n) bit 0 ≡ bit = get_or-range_with_len 0 n bit 0 lt ∙ omega arith in
    subst (λ (k : ℕ). f k ≡ true) eq (all_true f (range_with_len 0 n) bit e (omega (arith, length-range_with_len 0 n)))

pub all_each : {X : Type 0} (test : X → Bool) → ((x : X) → test x ≡ true) → (xs : List X) → list_all test xs ≡ true
all_each test each [] = refl
all_each test each (x ∷ xs) = rw (each x) (all_each test each xs)

pub any_same : (f g : ℕ → Bool) → ((k : ℕ) → f k ≡ g k) → (xs : List ℕ) → list_any f xs ≡ list_any g xs
any_same f g same [] = refl
any_same f g same (x ∷ xs) = rw (same x, any_same f g same xs) refl

not_not : (b : Bool) → not (not b) ≡ b
not_not true = refl
not_not false = refl

-- a set without a member has no bit
pub nothing_from_bits : (named bits : ℕ) → list_any (has_bit named bits) (range_with_len 0 (named + 1)) ≡ false → bits ≡ 0
nothing_from_bits named bits none =
    let low : bits < 2 ^ named = known_below named bits (any_false (has_bit named bits) (named + 1) named none (omega arith)) in
    same_from_bits_below named bits 0 low (omega arith)
    (λ i lt.
    let off : eqb (bit_at bits i) 1 ≡ false = sym (has_bit-named named bits i lt) ∙ any_false (has_bit named bits) (named + 1) i none (omega arith) in
    let small : bit_at bits i < 2 = bit_at-lt bits i in
    let not_one : bit_at bits i ≢ 1 = eqb-false (bit_at bits i) 1 off in
    rw bit_at-zero (omega arith))

pub zero_bit : (named bit : ℕ) → has_bit named 0 bit ≡ false
zero_bit named bit = elim (cases_lt bit named) [
  | inl lt ↦ has_bit-named named 0 bit lt ∙ ap (λ (k : ℕ). eqb k 1) (bit_at-zero bit)
  | inr le ↦ has_bit-other named 0 bit le ∙ lt-leb (2 ^ named) 0 (pow_pos named)
]

pub any_none : {X : Type 0} (test : X → Bool) → ((x : X) → test x ≡ false) → (xs : List X) → list_any test xs ≡ false
any_none test none [] = refl
any_none test none (x ∷ xs) = rw (none x) (any_none test none xs)

-- a number is 0 exactly if no bit of it is a member
pub is_zero_by_bits : (named bits : ℕ) → eqb bits 0 ≡ not (list_any (has_bit named bits) (range_with_len 0 (named + 1)))
is_zero_by_bits named bits = elim (cases_eq bits 0) [
  | inl zero_is ↦ rw zero_is (sym (ap not (any_none (has_bit named 0) (zero_bit named) (range_with_len 0 (named + 1)))))
  | inr some ↦
      rw (ne_eqb bits 0 some)
      (elim (cases_Bool (list_any (has_bit named bits) (range_with_len 0 (named + 1)))) [
        | inl found ↦ sym (ap not found)
        | inr none ↦ absurd (some (nothing_from_bits named bits none))
      ])
]

-- what is wanted and handled and not granted is nothing exactly if no bit of the three says so
pub is_lacking_by_bits : (named wanted handled granted : ℕ) → named ≤ 32 → granted < 2 ^ 32 → has_bit named handled named ≡ false
    → not (eqb (bit_and (bit_and wanted handled) (bit_not w32 granted)) 0)
    ≡ list_any (λ bit. has_bit named wanted bit && has_bit named handled bit && not (has_bit named granted bit)) (range_with_len 0 (named + 1))
is_lacking_by_bits named wanted handled granted narrow fits known =
    let left = bit_and (bit_and wanted handled) (bit_not w32 granted) in
    ap not (is_zero_by_bits named left)
    ∙ not_not (list_any (has_bit named left) (range_with_len 0 (named + 1)))
    ∙ any_same (has_bit named left) (λ bit. has_bit named wanted bit && has_bit named handled bit && not (has_bit named granted bit))
    (λ bit. has_bit-lacking named wanted handled granted bit narrow fits (known_below named handled known)) (range_with_len 0 (named + 1))

implied : (x y : ℕ) → x < 2 → y < 2 → min x y ≡ x → (not (eqb x 1) || eqb y 1) ≡ true
implied zero y p q e = refl
implied (suc zero) zero p q e = absurd (omega arith)
implied (suc zero) (suc zero) p q e = refl
implied (suc zero) (suc (suc y)) p q e = absurd (omega arith)
implied (suc (suc x)) y p q e = absurd (omega arith)

min_from_implied : (x y : ℕ) → x < 2 → y < 2 → (not (eqb x 1) || eqb y 1) ≡ true → min x y ≡ x
min_from_implied zero y p q e = omega arith
min_from_implied (suc zero) zero p q e = absurd cc
min_from_implied (suc zero) (suc zero) p q e = refl
min_from_implied (suc zero) (suc (suc y)) p q e = absurd (omega arith)
min_from_implied (suc (suc x)) y p q e = absurd (omega arith)

or_from_false : (x y : Bool) → y ≡ false → (not x || y) ≡ true → x ≡ false
or_from_false true true f e = absurd cc
or_from_false true false f e = absurd cc
or_from_false false y f e = refl

-- a set is within known ones exactly if each bit of it is a bit of theirs
pub is_within_by_bits : (named set whole : ℕ) → has_bit named whole named ≡ false
    → eqb (bit_and set whole) set ≡ list_all (λ bit. not (has_bit named set bit) || has_bit named whole bit) (range_with_len 0 (named + 1))
is_within_by_bits named set whole known =
    let low : whole < 2 ^ named = known_below named whole known in
    let test : ℕ → Bool = λ bit. not (has_bit named set bit) || has_bit named whole bit in
    elim (cases_eq (bit_and set whole) set) [
      | inl same ↦
          let set_low : set < 2 ^ named = omega (arith, and_le_r set whole) in
          rw (eq-eqb (bit_and set whole) set same)
          (sym (all_each test
          (λ bit.
          elim (cases_lt bit named) [
            | inl lt ↦
                rw (has_bit-named named set bit lt, has_bit-named named whole bit lt)
                (implied (bit_at set bit) (bit_at whole bit) (bit_at-lt set bit) (bit_at-lt whole bit)
                (sym (bit_at_and set whole bit) ∙ ap (λ (k : ℕ). bit_at k bit) same))
            | inr le ↦ rw (has_bit-other named set bit le, lt-leb (2 ^ named) set set_low) refl
          ])
          (range_with_len 0 (named + 1))))
      | inr differs ↦
          rw (ne_eqb (bit_and set whole) set differs)
          (elim (cases_Bool (list_all test (range_with_len 0 (named + 1)))) [
            | inl all ↦
                let set_low : set < 2 ^ named =
                known_below named set
                (or_from_false (has_bit named set named) (has_bit named whole named) known (all_at test (named + 1) named all (omega arith))) in
                absurd (differs (same_from_bits_below named (bit_and set whole) set (omega (arith, and_le_l set whole)) set_low
                (λ i lt.
                let here : (not (has_bit named set i) || has_bit named whole i) ≡ true = all_at test (named + 1) i all (omega arith) in
                let bits : (not (eqb (bit_at set i) 1) || eqb (bit_at whole i) 1) ≡ true =
                rw (← has_bit-named named set i lt, ← has_bit-named named whole i lt) here in
                bit_at_and set whole i ∙ min_from_implied (bit_at set i) (bit_at whole i) (bit_at-lt set i) (bit_at-lt whole i) bits)))
            | inr not_all ↦ sym not_all
          ])
    ]

-- ---- bits taken out

-- what lacks another's bits is the difference
pub lacks_taken : (a taken : ℕ) → a < 2 ^ 32 → taken < 2 ^ 32 → bit_and a (4294967295 - taken) ≡ a - bit_and a taken
lacks_taken a taken fits small =
    let whole : bit_and (4294967295 - taken) a + bit_and taken a ≡ a = and-not 32 taken a small fits in
    omega (arith, whole, and_comm a (4294967295 - taken), and_comm a taken)

without-xor : (a m : ℕ) → bits_without a m ≡ bit_xor a (bit_and a m)
without-xor a m =
    let own : bit_and a (bit_and a m) ≡ bit_and a m = sym (and_assoc m a a) ∙ ap (λ (x : ℕ). bit_and x m) (and_self a) in
    omega (arith, xor_add_and a (bit_and a m), own)

-- a bit that is left, by the bit and by what is taken
left_bit : ℕ → ℕ → ℕ
left_bit x y = (x + min x y) % 2

bit_at-without : (a m i : ℕ) → bit_at (bits_without a m) i ≡ left_bit (bit_at a i) (bit_at m i)
unfolding left_bit
bit_at-without a m i =
    ap (λ (n : ℕ). bit_at n i) (without-xor a m) ∙ bit_at_xor a (bit_and a m) i ∙ ap (λ (x : ℕ). (bit_at a i + x) % 2) (bit_at_and a m i)

one_left : (x y : ℕ) → x < 2 → y < 2 → eqb (left_bit x y) 1 ≡ (eqb x 1 && not (eqb y 1))
unfolding left_bit
one_left zero zero p q = refl
one_left zero (suc zero) p q = refl
one_left (suc zero) zero p q = refl
one_left (suc zero) (suc zero) p q = refl
one_left (suc (suc x)) y p q = absurd (omega arith)
one_left x (suc (suc y)) p q = absurd (omega arith)

-- what is taken first, and is among what is taken then, makes no difference
left_twice : (x n m : ℕ) → x < 2 → m < 2 → min n m ≡ n → left_bit (left_bit x n) m ≡ left_bit x m
unfolding left_bit
left_twice zero zero zero p q e = refl
left_twice zero zero (suc zero) p q e = refl
left_twice zero (suc zero) (suc zero) p q e = refl
left_twice (suc zero) zero zero p q e = refl
left_twice (suc zero) zero (suc zero) p q e = refl
left_twice (suc zero) (suc zero) (suc zero) p q e = refl
left_twice (suc (suc x)) n m p q e = absurd (omega arith)
left_twice x n (suc (suc m)) p q e = absurd (omega arith)
left_twice x (suc n) zero p q e = absurd (omega arith)
left_twice x (suc (suc n)) (suc zero) p q e = absurd (omega arith)

pub without-twice : (a n m : ℕ) → bit_and n m ≡ n → bits_without (bits_without a n) m ≡ bits_without a m
without-twice a n m within =
    same_from_bits (bits_without (bits_without a n) m) (bits_without a m)
    (λ i.
    let among : min (bit_at n i) (bit_at m i) ≡ bit_at n i = sym (bit_at_and n m i) ∙ ap (λ (k : ℕ). bit_at k i) within in
    bit_at-without (bits_without a n) m i ∙ ap (λ (x : ℕ). left_bit x (bit_at m i)) (bit_at-without a n i)
    ∙ left_twice (bit_at a i) (bit_at n i) (bit_at m i) (bit_at-lt a i) (bit_at-lt m i) among ∙ sym (bit_at-without a m i))

xor_above : (named a b : ℕ) → b < 2 ^ named → leb (2 ^ named) (bit_xor a b) ≡ leb (2 ^ named) a
xor_above named a b small = elim (cases_lt a (2 ^ named)) [
  | inl low ↦ rw (lt-leb (2 ^ named) (bit_xor a b) (xor_lt named a b low small), lt-leb (2 ^ named) a low) refl
  | inr high ↦ elim (cases_lt (bit_xor a b) (2 ^ named)) [
    | inl low ↦
        let back : bit_xor (bit_xor a b) b ≡ a = xor_assoc a b b ∙ ap (bit_xor a) (xor_self b) ∙ xor_zero a in
        absurd (omega (arith, xor_lt named (bit_xor a b) b low small, back))
    | inr still ↦ rw (le-leb (2 ^ named) (bit_xor a b) still, le-leb (2 ^ named) a high) refl
  ]
]
  where
    xor_zero : (n : ℕ) → bit_xor n 0 ≡ n
    xor_zero n = omega (arith, xor_add_and n 0, and_le_r n 0)

and_true : (b c : Bool) → c ≡ false → b ≡ (b && not c)
and_true true c e = sym (ap not e)
and_true false c e = refl

-- what is left has all bits but those that are taken
pub has_bit-without : (named a taken bit : ℕ) → taken < 2 ^ named
    → has_bit named (bits_without a taken) bit ≡ (has_bit named a bit && not (has_bit named taken bit))
has_bit-without named a taken bit low = elim (cases_lt bit named) [
  | inl lt ↦
      rw (
        has_bit-named named (bits_without a taken) bit lt,
        has_bit-named named a bit lt,
        has_bit-named named taken bit lt,
        bit_at-without a taken bit,
      )
      (one_left (bit_at a bit) (bit_at taken bit) (bit_at-lt a bit) (bit_at-lt taken bit))
  | inr le ↦
      rw (has_bit-other named (bits_without a taken) bit le, has_bit-other named a bit le, without-xor a taken)
      (xor_above named a (bit_and a taken) (omega (arith, and_le_r a taken))
      ∙ and_true (leb (2 ^ named) a) (has_bit named taken bit) (has_bit-other named taken bit le ∙ lt-leb (2 ^ named) taken low))
]

-- what two numbers share, the second of named bits alone
pub has_bit-and : (named a b bit : ℕ) → b < 2 ^ named → has_bit named (bit_and a b) bit ≡ (has_bit named a bit && has_bit named b bit)
has_bit-and named a b bit low = elim (cases_lt bit named) [
  | inl lt ↦
      rw (has_bit-named named (bit_and a b) bit lt, has_bit-named named a bit lt, has_bit-named named b bit lt, bit_at_and a b bit)
      ((one_of_bits (bit_at a bit) (bit_at b bit) (bit_at-lt a bit) (bit_at-lt b bit)).1)
  | inr le ↦
      let less : bit_and a b < 2 ^ named = omega (arith, and_le_r a b) in
      has_bit-other named (bit_and a b) bit le ∙ lt-leb (2 ^ named) (bit_and a b) less
      ∙ sym (and_false (has_bit named a bit) (has_bit named b bit) (has_bit-other named b bit le ∙ lt-leb (2 ^ named) b low))
]
