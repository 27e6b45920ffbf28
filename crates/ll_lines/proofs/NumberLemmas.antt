-- What digits alone write is a whole number.
use Rattle.std.proofs.Common.{◌≡◌, ◌∙◌, ℕ, ◌+◌, ◌-◌, ◌*◌, ◌^◌, ◌<◌, ◌≤◌, List, [], ◌∷◌}
use Rattle.std.proofs.Common.{length, take, get_or, true, false, ◌==◌, Some, refl, sym, ap, subst, arith, take_all}
use Rattle.std.proofs.Math.Nat.{pow-le-pow_right}
use Rattle.std.proofs.lemmas.Bool.{lt-ltb, ne_eqb, and_parts, leb-true}
use Rattle.std.proofs.lemmas.List.{append-nil, length-take}
use Rattle.std.proofs.lemmas.Int.Digits.{digits_value-lt, digits_value_more, digits_more}
use Rattle.std.proofs.lemmas.Str.Parse.{digit_from_value}
use Rattle.std.proofs.lemmas.Str.{digit_value_digit}
use Rattle.std.proofs.lemmas.Float.Parse.{scan_numeral-text_of}
use Rattle.std.specs.Prelude.{nat_le}
use Rattle.std.specs.Char.{digit_value, is_ascii_digit}
use Rattle.std.specs.Str.Parse.{AllDigits, digits_value}
use Rattle.fast_float.specs.Text.{Parts, scan}
use Rattle.serde_json.specs.Data.{unsigned}
use Rattle.serde_json.specs.Read.{number_of}

-- the digits so far, and the number that they write
pub record HasRead (bytes : List ℕ) (count number : ℕ) : Type 0 where
  pub digits : AllDigits 10 (take count bytes)
  pub value : number ≡ digits_value 10 (take count bytes)

abbrev whole : List ℕ → Parts
whole bytes = record { whole = bytes; point = false; fraction = []; exponent_negative = false; exponent = []; len = length bytes }

scanned : (bytes : List ℕ) → AllDigits 10 bytes → scan bytes ≡ whole bytes
unfolding scan
scanned bytes all =
    ap scan (sym (append-nil bytes))
    ∙ scan_numeral-text_of (whole bytes)
    (record {
      whole_digits = all;
      fraction_digits = tt;
      exponent_digits = tt;
      no_point = λ none. refl;
      no_exponent = λ none. refl;
      len_is = ap length (sym (append-nil bytes));
    })

small : (bytes : List ℕ) (most : ℕ) → AllDigits 10 bytes → length bytes ≤ most → digits_value 10 bytes < 10 ^ most
small bytes most all short = omega (arith, digits_value-lt 10 bytes all, pow-le-pow_right {n = 10} (omega arith) short)

first : (bytes : List ℕ) → 0 < length bytes → AllDigits 10 bytes → (get_or bytes 0 0 == 45) ≡ false
first [] some all = absurd (omega arith)
first (b ∷ bytes) some all = ne_eqb b 45 (λ same. omega (arith, digit_from_value b all.0))

digits_are : (bytes : List ℕ) → 0 < length bytes → length bytes ≤ 18 → AllDigits 10 bytes → number_of bytes ≡ Some (unsigned (digits_value 10 bytes))
unfolding number_of
digits_are bytes some short all =
    rw (
      first bytes some all,
      scanned bytes all,
      append-nil bytes,
      lt-ltb 0 (length bytes) some,
      lt-ltb (digits_value 10 bytes) (2 ^ 64) (omega (arith, small bytes 18 all short)),
    ) refl

range : (b : ℕ) → is_ascii_digit b ≡ true → (48 ≤ b) × (b ≤ 57)
range b is = let both = and_parts (nat_le 48 b) (nat_le b 57) is in (leb-true 48 b both.0, leb-true b 57 both.1)

-- one digit more
module _ (bytes : List ℕ) (count number : ℕ) (there : count < length bytes) (short : length bytes ≤ 18) (read : HasRead bytes count number)
    (is : is_ascii_digit (get_or bytes count 0) ≡ true)
  where
    value : digit_value (get_or bytes count 0) + 48 ≡ get_or bytes count 0
    value = digit_value_digit (get_or bytes count 0) (range (get_or bytes count 0) is)

    below : number < 10 ^ 17
    below = omega (arith, read.value, small (take count bytes) 17 read.digits (omega (arith, length-take count bytes)))

    pub room : number * 10 + (get_or bytes count 0 - 48) < 2 ^ 64
    room = omega (arith, below, range (get_or bytes count 0) is)

    pub more : HasRead bytes (count + 1) (number * 10 + (get_or bytes count 0 - 48))
    more = record {
      digits = digits_more 10 bytes count there read.digits (omega (arith, value, range (get_or bytes count 0) is));
      value = omega (arith, value, read.value, digits_value_more 10 bytes count there);
    }

-- all of them
pub all_read : (bytes : List ℕ) (count number : ℕ) → 0 < length bytes → length bytes ≤ 18 → length bytes ≤ count → HasRead bytes count number
    → number_of bytes ≡ Some (unsigned number)
all_read bytes count number some short end read =
    let whole : take count bytes ≡ bytes = take_all count bytes end in
    digits_are bytes some short (subst (AllDigits 10) whole read.digits) ∙ ap (λ n. Some (unsigned n)) (sym (read.value ∙ ap (digits_value 10) whole))
