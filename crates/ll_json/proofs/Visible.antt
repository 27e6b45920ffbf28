-- The text of a value whose numbers fit has no control character.
use Rattle.std.proofs.Common.{◌≡◌, ℕ, suc, ◌+◌, ◌^◌, ◌/◌, ◌%◌, ◌<◌, ◌≤◌, Bool, true, false, cond, ◌||◌}
use Rattle.std.proofs.Common.{◌&&◌, ◌==◌, nat_lt, List, [], ◌∷◌, ◌++◌, length, get_or, decimal, refl, subst, sym, arith}
use Rattle.std.proofs.lemmas.Bool.{eqb-true, ltb-true, ltb-false}
use Rattle.std.proofs.lemmas.Fmt.{decimal_is_IsNumeral}
use Rattle.std.proofs.lemmas.Str.Parse.{digit_at}
use Rattle.std.specs.Prelude.{⊤}
use Rattle.std.specs.Char.{digit_char}
use Rattle.json.specs.Token as token
use Rattle.json.specs.Token.{Token}
use Rattle.json.specs.Json as json
use Rattle.json.specs.Json.{Json, null, boolean, number, string, array, object, no_items, item, no_members, member}
use Rattle.json.specs.Print.{escape_letter, escape_byte, escape, print, print_from, quoted, separator, token_text, begins, ends}
use Rattle.json.specs.Tree.{json_tokens, items_tokens, members_tokens}
use Rattle.ll_json.specs.ReadBack.{FitsWords, ItemsFitWords, MembersFitWords, IsVisible}

IsVisible-append : (xs ys : List ℕ) → IsVisible xs → IsVisible ys → IsVisible (xs ++ ys)
IsVisible-append [] ys h k = k
IsVisible-append (x ∷ xs) ys h k = (h.0, IsVisible-append xs ys h.1 k)

-- ---- a byte of a string

abbrev Letter : ℕ → Type 0
Letter n = 0 < n → 32 ≤ n

chosen : (b : Bool) (y z : ℕ) → (b ≡ true → Letter y) → Letter z → Letter (cond b y z)
chosen true y z h k = h refl
chosen false y z h k = k

either : (a b : Bool) {A : Type 0} → (a || b) ≡ true → (a ≡ true → A) → (b ≡ true → A) → A
either true b e h k = h refl
either false b e h k = k e

letter : (x : ℕ) → Letter (escape_letter x)
letter x =
    chosen _ x _ (λ e some. either (x == 34) (x == 92) e (λ q. omega (arith, eqb-true x 34 q)) (λ q. omega (arith, eqb-true x 92 q)))
    (chosen (x == 8) 98 _ (λ e some. omega arith)
    (chosen (x == 12) 102 _ (λ e some. omega arith)
    (chosen (x == 10) 110 _ (λ e some. omega arith)
    (chosen (x == 13) 114 _ (λ e some. omega arith)
    (chosen (x == 9) 116 0 (λ e some. omega arith) (λ some. omega arith))))))

one_of : (b : Bool) (xs ys : List ℕ) → (b ≡ true → IsVisible xs) → (b ≡ false → IsVisible ys) → IsVisible (cond b xs ys)
one_of true xs ys h k = h refl
one_of false xs ys h k = k refl

digit : (b : Bool) (m n : ℕ) → 32 ≤ m → 32 ≤ n → 32 ≤ cond b m n
digit true m n h k = h
digit false m n h k = k

visible_digit : (d : ℕ) → 32 ≤ digit_char d
visible_digit d = digit (nat_lt d 10) (48 + d) (87 + d) (omega arith) (omega arith)

visible_byte : (x : ℕ) → IsVisible (escape_byte x)
unfolding escape_byte
visible_byte x =
    one_of (nat_lt 0 (escape_letter x)) _ _ (λ e. (omega arith, (letter x (ltb-true 0 _ e), tt)))
    (λ _. one_of (nat_lt x 32) _ _ (λ e. (omega arith, (omega arith, (omega arith, (omega arith, (visible_digit (x / 16), (visible_digit (x % 16), tt)))))))
    (λ e. (ltb-false x 32 e, tt)))

visible_escape : (s : List ℕ) → IsVisible (escape s)
visible_escape [] = tt
visible_escape (x ∷ s) = IsVisible-append (escape_byte x) (escape s) (visible_byte x) (visible_escape s)

visible_quoted : (s : List ℕ) → IsVisible (quoted s)
visible_quoted s = (omega arith, IsVisible-append (escape s) (34 ∷ []) (visible_escape s) (omega arith, tt))

-- ---- a number

visible_from : (ds : List ℕ) → ((i : ℕ) → i < length ds → 32 ≤ get_or ds i 0) → IsVisible ds
visible_from [] h = tt
visible_from (d ∷ ds) h = (h 0 (omega arith), visible_from ds (λ i l. h (suc i) (omega arith)))

visible_decimal : (n : ℕ) → n < 2 ^ 64 → IsVisible (decimal n)
visible_decimal n h = visible_from (decimal n) (λ i l. omega (arith, (digit_at _ i (decimal_is_IsNumeral n h).0.1 l).0))

-- ---- tokens

-- tokens whose texts are visible
abbrev IsShown : List Token → Type 0
IsShown [] = ⊤
IsShown (t ∷ ts) = IsVisible (token_text t) × IsShown ts

IsShown-append : (ts us : List Token) → IsShown ts → IsShown us → IsShown (ts ++ us)
IsShown-append [] us h k = k
IsShown-append (t ∷ ts) us h k = (h.0, IsShown-append ts us h.1 k)

visible_boolean : (b : Bool) → IsVisible (token_text (token.boolean b))
visible_boolean true = (omega arith, (omega arith, (omega arith, (omega arith, tt))))
visible_boolean false = (omega arith, (omega arith, (omega arith, (omega arith, (omega arith, tt)))))

visible_separator : (later : Bool) (t : Token) → IsVisible (separator later t)
visible_separator later t = one_of (later && begins t) _ _ (λ e. (omega arith, tt)) (λ e. tt)

visible_print : (later : Bool) (ts : List Token) → IsShown ts → IsVisible (print_from later ts)
unfolding print_from
visible_print later [] h = tt
visible_print later (t ∷ ts) h =
    IsVisible-append _ _ (visible_separator later t) (IsVisible-append _ _ h.0 (visible_print (ends t) ts h.1))

mutual
  shown : (j : Json) → FitsWords j → IsShown (json_tokens j)
  shown null fits = ((omega arith, (omega arith, (omega arith, (omega arith, tt)))), tt)
  shown (boolean b) fits = (visible_boolean b, tt)
  shown (number text) fits = (subst IsVisible (sym fits.2) (visible_decimal fits.0 fits.1), tt)
  shown (string s) fits = (visible_quoted s, tt)
  shown (array js) fits = ((omega arith, tt), items_shown js fits)
  shown (object ms) fits = ((omega arith, tt), members_shown ms fits)

  items_shown : (js : json.Items) → ItemsFitWords js → IsShown (items_tokens js)
  items_shown no_items fits = ((omega arith, tt), tt)
  items_shown (item j js) fits = IsShown-append (json_tokens j) (items_tokens js) (shown j fits.0) (items_shown js fits.1)

  members_shown : (ms : json.Members) → MembersFitWords ms → IsShown (members_tokens ms)
  members_shown no_members fits = ((omega arith, tt), tt)
  members_shown (member k j ms) fits = (
    IsVisible-append (quoted k) (58 ∷ []) (visible_quoted k) (omega arith, tt),
    IsShown-append (json_tokens j) (members_tokens ms) (shown j fits.0) (members_shown ms fits.1),
  )

pub visible : (j : Json) → FitsWords j → IsVisible (print (json_tokens j))
visible j fits = visible_print false (json_tokens j) (shown j fits)
