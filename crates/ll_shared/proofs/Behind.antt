-- What is found behind skipped levels.
use Rattle.std.proofs.Common.{◌≡◌, ◌≢◌, ℕ, ◌+◌, ◌-◌, ◌*◌, ◌/◌, ◌%◌, ◌^◌, ◌<◌, ◌==◌, ◌&&◌, Bool, true, false}
use Rattle.std.proofs.Common.{Option, Some, None, if◌then◌else◌, inl, inr, refl, sym, ap, ◌∙◌, arith}
use Rattle.std.proofs.lemmas.Bool.{cases_eq, eq-eqb, ne_eqb, false≢true}
use Rattle.std.proofs.lemmas.Bool.Decides.{nat_tests}
use Rattle.std.proofs.lemmas.Nat.{mod-pow-add, shr-shr, div-mul-add, mod-mul-add, div-add-mod', mod_below}
use Rattle.ll_shared.specs.Levels.{agree, whole}
use Rattle.ll_shared.specs.Nodes.{behind}
use Rattle.ll_shared.proofs.Digits.{four_pow, size_pos, zero_or_pos}

and_false : (a : Bool) → (a && false) ≡ false
and_false true = refl
and_false false = refl

-- a number whose digits are these is the number with these digits
both_false : (q s k b : ℕ) → q ≢ k * s + b → (q % s == b && q / s == k) ≡ false
both_false q s k b other = elim (cases_eq (q / s) k) [
  | inl high ↦ elim (cases_eq (q % s) b) [
    | inl low ↦ absurd (other (sym (div-add-mod' q s) ∙ (ap (λ n. n * s + q % s) high ∙ ap (λ n. k * s + n) low)))
    | inr not_low ↦ rw (ne_eqb (q % s) b not_low) refl
  ]
  | inr not_high ↦ rw (ne_eqb (q / s) k not_high) (and_false (q % s == b))
]

-- a number is one with these digits if its digits are these
pub is_digits : (q s k b : ℕ) → b < s → (q == k * s + b) ≡ (q % s == b && q / s == k)
is_digits q s k b small = elim (cases_eq q (k * s + b)) [
  | inl same ↦ rw same (rw (div-mul-add k s b small, mod-mul-add k s b small, eq-eqb (k * s + b) (k * s + b) refl, eq-eqb b b refl, eq-eqb k k refl) refl)
  | inr other ↦ rw (ne_eqb q (k * s + b) other) (sym (both_false q s k b other))
]

is_four : (q k b : ℕ) → b < 4 → (q == 4 * k + b) ≡ (q % 4 == b && q / 4 == k)
is_four q k b small = grind (arith, nat_tests)

pub is_whole : (levels low bits rest q : ℕ) → bits < 4
    → (q == whole levels low bits rest) ≡ (agree levels q low && (q / 4 ^ levels % 4 == bits && q / 4 ^ levels / 4 == rest))
is_whole levels low bits rest q small =
    is_digits q (4 ^ levels) (4 * rest + bits) (low % 4 ^ levels) (mod_below low (4 ^ levels) (size_pos levels))
    ∙ ap (λ t. agree levels q low && t) (is_four (q / 4 ^ levels) rest bits small)

three_tests : {X : Type 0} (a b c : Bool) (x : Option X)
    → (if a && (b && c) then x else None) ≡ (if a then (if b then (if c then x else None) else None) else None)
three_tests true true c x = refl
three_tests true false c x = refl
three_tests false b c x = refl

-- a key in a fork under two bits above the levels in which its keys agree, and no other, is found below
pub leaf_whole : {V : Type 0} (levels low bits rest q : ℕ) (value : V) → bits < 4
    → (if q == whole levels low bits rest then Some value else None)
    ≡ behind levels low (λ above. if above % 4 == bits then (if above / 4 == rest then Some value else None) else None) q
leaf_whole levels low bits rest q value small =
    rw (is_whole levels low bits rest q small)
    (three_tests (agree levels q low) (q / 4 ^ levels % 4 == bits) (q / 4 ^ levels / 4 == rest) (Some value))

four_tests : (a b c d : ℕ) → b < 4 → d < 4 → (4 * a + b == 4 * c + d) ≡ (b == d && a == c)
four_tests a b c d b_small d_small = grind (arith, nat_tests)

-- the digits of a number that goes on above some levels
long_digits : (l n x : ℕ) → x % 4 ^ (l + n + 1) ≡ (4 * (x / 4 ^ l / 4 % 4 ^ n) + x / 4 ^ l % 4) * 4 ^ l + x % 4 ^ l
long_digits l n x =
    let all : 2 * (l + n + 1) ≡ (2 * n + 2) + 2 * l = omega arith in
    rw (← four_pow (l + n + 1), all, mod-pow-add x (2 * n + 2) (2 * l), mod-pow-add (x / 2 ^ (2 * l)) (2 * n) 2, four_pow l, four_pow n) (omega arith)

agree_split : (l n q w : ℕ) → agree (l + n + 1) q w ≡ (agree l q w && (q / 4 ^ l % 4 == w / 4 ^ l % 4 && agree n (q / 4 ^ l / 4) (w / 4 ^ l / 4)))
agree_split l n q w =
    rw (
      long_digits l n q,
      long_digits l n w,
      is_digits _ (4 ^ l) (4 * (w / 4 ^ l / 4 % 4 ^ n) + w / 4 ^ l % 4) (w % 4 ^ l) (mod_below w (4 ^ l) (size_pos l)),
      mod-mul-add (4 * (q / 4 ^ l / 4 % 4 ^ n) + q / 4 ^ l % 4) (4 ^ l) (q % 4 ^ l) (mod_below q (4 ^ l) (size_pos l)),
      div-mul-add (4 * (q / 4 ^ l / 4 % 4 ^ n) + q / 4 ^ l % 4) (4 ^ l) (q % 4 ^ l) (mod_below q (4 ^ l) (size_pos l)),
    )
    (ap (λ t. agree l q w && t) (four_tests (q / 4 ^ l / 4 % 4 ^ n) (q / 4 ^ l % 4) (w / 4 ^ l / 4 % 4 ^ n) (w / 4 ^ l % 4) (omega arith) (omega arith)))

div_split : (l n q : ℕ) → q / 4 ^ (l + n + 1) ≡ q / 4 ^ l / 4 / 4 ^ n
div_split l n q =
    let all : 2 * (l + n + 1) ≡ (2 * l + 2) + 2 * n = omega arith in
    rw (← four_pow (l + n + 1), all, ← shr-shr q (2 * l + 2) (2 * n), ← shr-shr q (2 * l) 2, four_pow l, four_pow n) refl

-- to skip many levels is to skip some, to go on under two bits, and to skip the others
pub behind_twice : {V : Type 0} (l n w : ℕ) (inner : ℕ → Option V) (q : ℕ)
    → behind (l + n + 1) w inner q
    ≡ behind l w (λ rest. if rest % 4 == w / 4 ^ l % 4 then behind n (w / 4 ^ l / 4) inner (rest / 4) else None) q
behind_twice l n w inner q =
    rw (agree_split l n q w, div_split l n q)
    (three_tests (agree l q w) (q / 4 ^ l % 4 == w / 4 ^ l % 4) (agree n (q / 4 ^ l / 4) (w / 4 ^ l / 4)) (inner (q / 4 ^ l / 4 / 4 ^ n)))

pub fork_whole : {V : Type 0} (l n low bits rest m w : ℕ) (inner : ℕ → Option V) (q : ℕ) → bits < 4
    → m ≡ l + n + 1 → w ≡ whole l low bits rest
    → behind m w inner q ≡ behind l low (λ above. if above % 4 == bits then behind n rest inner (above / 4) else None) q
fork_whole l n low bits rest m w inner q small levels digits =
    let high : (4 * rest + bits) / 4 ≡ rest = omega arith in
    let two : (4 * rest + bits) % 4 ≡ bits = omega arith in
    rw (levels, digits) (behind_twice l n (whole l low bits rest) inner q
    ∙ rw (
      div-mul-add (4 * rest + bits) (4 ^ l) (low % 4 ^ l) (mod_below low (4 ^ l) (size_pos l)),
      mod-mul-add (4 * rest + bits) (4 ^ l) (low % 4 ^ l) (mod_below low (4 ^ l) (size_pos l)),
      high,
      two,
    ) refl)

-- a key of a fork is known by its bits above the levels
same_digits : (l q key : ℕ) → (q == key) ≡ (agree l q key && q / 4 ^ l == key / 4 ^ l)
same_digits l q key =
    ap (λ k. q == k) (sym (div-add-mod' key (4 ^ l)))
    ∙ is_digits q (4 ^ l) (key / 4 ^ l) (key % 4 ^ l) (mod_below key (4 ^ l) (size_pos l))

pub agree_like : (l q a b : ℕ) → a % 4 ^ l ≡ b % 4 ^ l → agree l q a ≡ agree l q b
agree_like l q a b same = ap (λ m. q % 4 ^ l == m) same

pub from_agree : (l a b : ℕ) → agree l a b ≡ true → a % 4 ^ l ≡ b % 4 ^ l
from_agree l a b same = grind (arith, nat_tests)

pub to_agree : (l a b : ℕ) → a % 4 ^ l ≡ b % 4 ^ l → agree l a b ≡ true
to_agree l a b same = eq-eqb _ _ same

module _ {V : Type 0} (l low : ℕ) where
  pub behind_key : (inner : ℕ → Option V) (key : ℕ) → agree l key low ≡ true → behind l low inner key ≡ inner (key / 4 ^ l)
  behind_key inner key is = rw is refl

  pub behind_same : (old new : ℕ → Option V) → ((q : ℕ) → new q ≡ old q) → (q : ℕ) → behind l low new q ≡ behind l low old q
  behind_same old new same q = ap (λ o. if agree l q low then o else None) (same (q / 4 ^ l))

  put_tests : (a b : Bool) (new old : Option V) → (if a then (if b then new else old) else None) ≡ (if a && b then new else if a then old else None)
  put_tests true true new old = refl
  put_tests true false new old = refl
  put_tests false b new old = refl

  -- what is put behind the levels is put under its whole key
  pub behind_put : (old new : ℕ → Option V) (key : ℕ) (value : Option V) → agree l key low ≡ true
      → ((q : ℕ) → new q ≡ (if q == key / 4 ^ l then value else old q))
      → (q : ℕ) → behind l low new q ≡ (if q == key then value else behind l low old q)
  behind_put old new key value is told q =
      rw (told (q / 4 ^ l), same_digits l q key, agree_like l q key low (from_agree l key low is))
      (put_tests (agree l q low) (q / 4 ^ l == key / 4 ^ l) value (old (q / 4 ^ l)))

seen_if : (b : Bool) (result : Option ℕ) (known rest : ℕ) → result ≡ (if b then Some known else None) → result ≡ Some rest → (b ≡ true) × (rest ≡ known)
seen_if true result known rest is was = (refl, cc)
seen_if false result known rest is was = (cc, cc)

-- a look-up goes on behind the levels just where the key agrees
pub seen : (l low key : ℕ) (result : Option ℕ) (rest : ℕ) → result ≡ (if agree l key low then Some (key / 4 ^ l) else None) → result ≡ Some rest
    → (agree l key low ≡ true) × (rest ≡ key / 4 ^ l)
seen l low key result rest is was = seen_if (agree l key low) result (key / 4 ^ l) rest is was

low_of_low : (m d n : ℕ) → n % 4 ^ (m + d) % 4 ^ m ≡ n % 4 ^ m
low_of_low m d n =
    let all : 2 * (m + d) ≡ 2 * d + 2 * m = omega arith in
    rw (← four_pow (m + d), all, mod-pow-add n (2 * d) (2 * m), four_pow m)
    (mod-mul-add (n / 4 ^ m % 2 ^ (2 * d)) (4 ^ m) (n % 4 ^ m) (mod_below n (4 ^ m) (size_pos m)))

-- the levels in which two numbers agree are fewer than those in which they don't
pub fewer : (l m a b : ℕ) → a % 4 ^ l ≡ b % 4 ^ l → agree m b a ≡ false → l < m
fewer l m a b same other = elim (zero_or_pos (m - l)) [
  | inl none ↦
      let more : l ≡ m + (l - m) = omega arith in
      let alike : b % 4 ^ m ≡ a % 4 ^ m = sym (low_of_low m (l - m) b) ∙ (ap (λ k. b % 4 ^ k % 4 ^ m) (sym more) ∙ (ap (λ n. n % 4 ^ m) (sym same)
      ∙ (ap (λ k. a % 4 ^ k % 4 ^ m) more ∙ low_of_low m (l - m) a))) in
      absurd (false≢true (sym other ∙ to_agree m b a alike))
  | inr some ↦ omega arith
]

-- a fork that skips many levels is one behind some of them that skips the others
pub split_fork : {V : Type 0} (l n m low above : ℕ) (inner : ℕ → Option V) (q : ℕ) → n + l + 1 ≡ m → above ≡ low / 4 ^ l
    → behind l low (λ rest. if rest % 4 == low / 4 ^ l % 4 then behind n (above / 4) inner (rest / 4) else None) q ≡ behind m low inner q
split_fork l n m low above inner q levels digits =
    let all : m ≡ l + n + 1 = omega arith in
    rw (all, digits) (sym (behind_twice l n low inner q))
