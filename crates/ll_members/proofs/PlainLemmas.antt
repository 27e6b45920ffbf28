-- What stands plainly in a line is the printed form of a value, which reads back.
use Rattle.std.proofs.Common.{◌≡◌, ℕ, zero, suc, ◌+◌, ◌<◌, ◌≤◌, ◌==◌, Bool, true, false, cond, not}
use Rattle.std.proofs.Common.{List, [], ◌∷◌, ◌++◌, length, take, drop, get_or, fold, Option, Some, None, Ok, option_and_then}
use Rattle.std.proofs.Common.{refl, sym, ap, ap₂, subst, ◌∙◌, arith, append-nil, append_assoc}
use Rattle.std.specs.Prelude.{IsUtf8, codes, ok_or, is_some, nat_le, slice_index}
use Rattle.std.specs.List.{list_all, prefix_len}
use Rattle.std.specs.Char.{is_ascii_digit}
use Rattle.std.proofs.lemmas.List.{take-append-drop, drop_all, nil_from_length}
use Rattle.std.proofs.lemmas.List.Folds.{list_all-append}
use Rattle.std.proofs.lemmas.List.Sums.{fold-append, fold_push}
use Rattle.std.proofs.lemmas.Bool.{false_from_ne_true, not-true, eqb-true, eqb-false, leb-true, and_parts, ne_eqb}
use denote.Ref.{Bor}
use Rattle.json.specs.Token.{Token}
use Rattle.json.specs.Json as json
use Rattle.json.specs.Lex.{tokens}
use Rattle.memchr.specs.Find.{NoneBefore, Passes, is_byte}
use Rattle.json.specs.Word.{after_number}
use Rattle.json.specs.Print.{IsNumber as IsNumeral}
use Rattle.json.specs.Print.{escape, quoted, ends, print, print_from}
use Rattle.json.specs.Tree.{json_tokens, items_tokens, members_tokens, depth, items_depth, members_depth, HasNumbers, ItemsHaveNumbers, MembersHaveNumbers}
use Rattle.json.proofs.Printed.Strings.{escape_byte_plain}
use Rattle.json.proofs.Printed.Tokens.{tokens-print, print_from-append}
use Rattle.json.proofs.Printed.Trees.{value-json_tokens, ArePrintable-json_tokens}
use Rattle.serde_json.specs.Data.{Num}
use Rattle.serde_json.specs.Find.{as_u64}
use Rattle.serde_json.specs.Read.{number_of}
use Rattle.ll_lines.specs.declared.fault.Cause.TheVariants.{Json}
use Rattle.ll_lines.specs.Values.{parsed, data_of, are_in_range, have_range}
use Rattle.ll_lines.proofs.Values.{in_range}
use Rattle.ll_members.specs.Slots.{spelt, IsLine, ShowMembers, Keeps, AreMissing, rights_of, no_rights, with_rights}
use Rattle.ll_members.specs.Plain.{is_unescaped, IsUnescaped, items_of, ReadsBack, ReadBack}
use Rattle.ll_members.specs.Plain.{BeginsWithNumber, BeginsWithTexts, BeginsWithValue, BeginsWithMember, IsObject}
use Rattle.ll_members.specs.declared.rights.Rights.{Rights}
use Rattle.ll_members.specs.declared.row.Members.{Members}
use Rattle.ll_members.specs.declared.row.Slot.{Slot}
use Rattle.ll_members.specs.declared.row.Slot.TheVariants.{Text, Number, Truth, Names}
use Rattle.ll_members.proofs.PassedLemmas.{in_front, in_front-none, in_front-one, get-one_more}

-- bytes that need no escape

all_parts : (p : ℕ → Bool) (xs ys : List ℕ) → list_all p (xs ++ ys) ≡ true → list_all p ys ≡ true
all_parts p xs ys all = (and_parts (list_all p xs) (list_all p ys) (sym (list_all-append p xs ys) ∙ all)).1

pub rest_unescaped : (line front rest : List ℕ) → line ≡ front ++ rest → IsUnescaped line → IsUnescaped rest
rest_unescaped line front rest is all = all_parts is_unescaped front rest (ap (list_all is_unescaped) (sym is) ∙ all)

pub unescaped_behind : (line rest : List ℕ) (mark : ℕ) → line ≡ mark ∷ rest → IsUnescaped line → IsUnescaped rest
unescaped_behind line rest mark is all = rest_unescaped line (mark ∷ []) rest is all

-- no quote stands before the end
abbrev NoQuote : List ℕ → ℕ → Type 0
NoQuote bytes end = (k : ℕ) → k < end → (slice_index bytes k == 34) ≡ true → ⊥

front_escaped : (bytes : List ℕ) (end : ℕ) → NoQuote bytes end → IsUnescaped bytes → escape (take end bytes) ≡ take end bytes
front_escaped bytes zero none all = refl
front_escaped [] (suc end) none all = refl
front_escaped (b ∷ bytes) (suc end) none all =
    let parts = and_parts (is_unescaped b) (list_all is_unescaped bytes) all in
    let tests = and_parts (nat_le 32 b) (not (b == 92)) parts.0 in
    let quote : b ≡ 34 → ⊥ = eqb-false b 34 (false_from_ne_true (b == 34) (none 0 (omega arith))) in
    let slash : b ≡ 92 → ⊥ = eqb-false b 92 (not-true (b == 92) tests.1) in
    ap (λ front. front ++ escape (take end bytes)) (escape_byte_plain b quote slash (leb-true 32 b tests.0))
    ∙ ap (λ text. b ∷ text) (front_escaped bytes end (λ k lt. none (suc k) (omega arith)) parts.1)

pub text_is_quoted : (line inside text rest last : List ℕ) (end : ℕ) → IsUnescaped line → line ≡ 34 ∷ inside
    → NoneBefore (Passes (is_byte 34) inside) 0 (length inside) end → text ≡ take end inside → rest ≡ drop end inside → rest ≡ 34 ∷ last
    → line ≡ quoted text ++ last
text_is_quoted line inside text rest last end all is none front back ends =
    let whole : inside ≡ text ++ (34 ∷ last) =
    sym (take-append-drop end inside) ∙ ap (λ l. l ++ drop end inside) (sym front) ∙ ap (λ l. text ++ l) (sym back ∙ ends) in
    let same : escape text ≡ text =
    ap escape front ∙ front_escaped inside end (λ k lt. none.before k (omega arith) lt) (unescaped_behind line inside 34 is all) ∙ sym front in
    is ∙ ap (λ l. 34 ∷ l) (whole ∙ ap (λ l. l ++ (34 ∷ last)) (sym same) ∙ sym (append_assoc (escape text) (34 ∷ []) last))

pub unescaped_behind_member : (line rest : List ℕ) (before after : Members) → BeginsWithMember line before after rest → IsUnescaped line → IsUnescaped rest
unescaped_behind_member line rest before after scan all =
    let value = print (json_tokens scan.value) in
    let behind_key = rest_unescaped line (quoted scan.key) (58 ∷ (value ++ rest)) scan.is all in
    rest_unescaped (58 ∷ (value ++ rest)) (58 ∷ value) rest refl behind_key

-- digits without a leading zero are a number

digit_front : (x : ℕ) (digit : Bool) (n : ℕ) (xs : List ℕ) → is_ascii_digit x ≡ digit → prefix_len is_ascii_digit (take n xs) ≡ length (take n xs)
    → prefix_len is_ascii_digit (take (cond digit (1 + n) 0) (x ∷ xs)) ≡ length (take (cond digit (1 + n) 0) (x ∷ xs))
digit_front x false n xs is others = refl
digit_front x true n xs is others =
    let next : suc n ≡ 1 + n = omega arith in
    let here : prefix_len is_ascii_digit (take (suc n) (x ∷ xs)) ≡ length (take (suc n) (x ∷ xs)) = rw is (omega (arith, others)) in
    subst (λ k. prefix_len is_ascii_digit (take k (x ∷ xs)) ≡ length (take k (x ∷ xs))) next here

pub all_digits : (xs : List ℕ) → prefix_len is_ascii_digit (take (prefix_len is_ascii_digit xs) xs) ≡ length (take (prefix_len is_ascii_digit xs) xs)
all_digits [] = refl
all_digits (x ∷ xs) = digit_front x (is_ascii_digit x) (prefix_len is_ascii_digit xs) xs refl (all_digits xs)

first_is_digit : (digit : Bool) (n m : ℕ) → cond digit (1 + n) 0 ≡ suc m → digit ≡ true
first_is_digit true n m all = refl
first_is_digit false n m all = absurd (omega arith)

numeral_by : (x : ℕ) (xs : List ℕ) (zero_first : Bool) → (x == 48) ≡ zero_first → is_ascii_digit x ≡ true
    → prefix_len is_ascii_digit (x ∷ xs) ≡ length (x ∷ xs) → (x ≡ 48 → length xs ≡ 0) → IsNumeral (x ∷ xs)
unfolding after_number
numeral_by x xs true is digit all alone =
    let x_is = eqb-true x 48 is in
    let none = nil_from_length xs (alone x_is) in
    ap₂ (λ y ys. after_number (y ∷ ys)) x_is none
numeral_by x xs false is digit all alone =
    let small = leb-true 48 x (and_parts _ _ digit).0 in
    let minus : (x == 45) ≡ false = ne_eqb x 45 (λ e. omega arith) in
    let behind : drop (length xs) xs ≡ [] = drop_all (length xs) xs (omega arith) in
    let some : (length (x ∷ xs) == 0) ≡ false = ne_eqb (length (x ∷ xs)) 0 (λ e. omega arith) in
    rw (minus, is, all, behind, some) refl

pub numeral : (text : List ℕ) → 0 < length text → prefix_len is_ascii_digit text ≡ length text → (get_or text 0 0 ≡ 48 → length text ≤ 1) → IsNumeral text
numeral [] some all alone = absurd (omega arith)
numeral (x ∷ xs) some all alone =
    numeral_by x xs (x == 48) refl (first_is_digit (is_ascii_digit x) _ (length xs) all) all (λ e. omega (arith, alone e))

-- the printed forms of values one after another

mutual
  value_ends : (j : json.Json) (after_value : Bool) → fold (λ _ u. ends u) after_value (json_tokens j) ≡ true
  value_ends json.null after_value = refl
  value_ends (json.boolean b) after_value = refl
  value_ends (json.number s) after_value = refl
  value_ends (json.string s) after_value = refl
  value_ends (json.array js) after_value = items_end js false
  value_ends (json.object ms) after_value = members_end ms false

  items_end : (js : json.Items) (after_value : Bool) → fold (λ _ u. ends u) after_value (items_tokens js) ≡ true
  items_end json.no_items after_value = refl
  items_end (json.item j js) after_value = fold-append (λ _ u. ends u) after_value (json_tokens j) (items_tokens js) ∙ items_end js _

  members_end : (ms : json.Members) (after_value : Bool) → fold (λ _ u. ends u) after_value (members_tokens ms) ≡ true
  members_end json.no_members after_value = refl
  members_end (json.member k j ms) after_value = fold-append (λ _ u. ends u) false (json_tokens j) (members_tokens ms) ∙ members_end ms _

print_value : (j : json.Json) (ts : List Token) → print_from false (json_tokens j ++ ts) ≡ print (json_tokens j) ++ print_from true ts
print_value j ts = print_from-append false (json_tokens j) ts ∙ ap (λ b. print (json_tokens j) ++ print_from b ts) (value_ends j false)

abbrev comma : Bool → List ℕ
comma after_value = cond after_value (44 ∷ []) []

print_member : (c : Bool) (k : List ℕ) (j : json.Json) (ms : json.Members)
    → print_from c (members_tokens (json.member k j ms)) ≡ comma c ++ (quoted k ++ (58 ∷ (print (json_tokens j) ++ print_from true (members_tokens ms))))
unfolding print_from
print_member true k j ms =
    ap (λ l. 44 ∷ l) (append_assoc (quoted k) (58 ∷ []) _ ∙ ap (λ l. quoted k ++ (58 ∷ l)) (print_value j (members_tokens ms)))
print_member false k j ms = append_assoc (quoted k) (58 ∷ []) _ ∙ ap (λ l. quoted k ++ (58 ∷ l)) (print_value j (members_tokens ms))

print_text : (c : Bool) (s : List ℕ) (texts : List (List ℕ))
    → print_from c (items_tokens (items_of (s ∷ texts))) ≡ comma c ++ (quoted s ++ print_from true (items_tokens (items_of texts)))
unfolding print_from
print_text true s texts = refl
print_text false s texts = refl

-- a list, a text at a time

pub record HasNamed (after_value : Bool) (line rest : List ℕ) (rights : Rights) : Type 0 where
  pub texts : List (List ℕ)
  pub are : (others : List (List ℕ)) (last : List ℕ) → rest ≡ print_from after_value (items_tokens (items_of others)) ++ last
      → line ≡ print_from false (items_tokens (items_of (texts ++ others))) ++ last
  pub named : rights ≡ fold with_rights no_rights texts

pub none_named : (line : List ℕ) → HasNamed false line line no_rights
none_named line = record { texts = []; are = λ others last is. is; named = refl }

pub one_more_named : (c : Bool) (line rest s behind : List ℕ) (rights : Rights) → HasNamed c line rest rights → rest ≡ comma c ++ (quoted s ++ behind)
    → HasNamed true line behind (with_rights rights s)
one_more_named c line rest s behind rights so_far is = record {
  texts = so_far.texts ++ (s ∷ []);
  are = λ others last left.
      let tail = print_from true (items_tokens (items_of others)) in
      let spelt : rest ≡ print_from c (items_tokens (items_of (s ∷ others))) ++ last =
      is ∙ ap (λ l. comma c ++ (quoted s ++ l)) left ∙ ap (λ l. comma c ++ l) (sym (append_assoc (quoted s) tail last))
      ∙ sym (append_assoc (comma c) (quoted s ++ tail) last) ∙ ap (λ l. l ++ last) (sym (print_text c s others)) in
      so_far.are (s ∷ others) last spelt
      ∙ ap (λ ts. print_from false (items_tokens (items_of ts)) ++ last) (sym (append_assoc so_far.texts (s ∷ []) others));
  named = ap (λ r. with_rights r s) so_far.named ∙ sym (fold_push with_rights no_rights so_far.texts s);
}

pub all_named : (c : Bool) (line rest last : List ℕ) (rights : Rights) → HasNamed c line rest rights → rest ≡ 93 ∷ last → BeginsWithTexts line rights last
unfolding print_from
all_named true line rest last rights so_far is = record {
  texts = so_far.texts;
  are = so_far.are [] last is ∙ ap (λ ts. print_from false (items_tokens (items_of ts)) ++ last) (append-nil so_far.texts);
  named = so_far.named;
}
all_named false line rest last rights so_far is = record {
  texts = so_far.texts;
  are = so_far.are [] last is ∙ ap (λ ts. print_from false (items_tokens (items_of ts)) ++ last) (append-nil so_far.texts);
  named = so_far.named;
}

rights_named : (rights : Rights) (texts : List (List ℕ)) → rights_of (Some rights) (items_of texts) ≡ Some (fold with_rights rights texts)
rights_named rights [] = refl
rights_named rights (s ∷ texts) = rights_named (with_rights rights s) texts

texts_are_flat : (texts : List (List ℕ)) → items_depth (items_of texts) ≡ 0
texts_are_flat [] = refl
texts_are_flat (s ∷ texts) = omega (arith, texts_are_flat texts)

no_numbers : (texts : List (List ℕ)) → ItemsHaveNumbers (items_of texts)
no_numbers [] = tt
no_numbers (s ∷ texts) = (tt, no_numbers texts)

texts_fit : (texts : List (List ℕ)) → are_in_range (items_of texts) ≡ true
texts_fit [] = refl
texts_fit (s ∷ texts) = texts_fit texts

-- each form of value

pub text_scanned : (line rest : List ℕ) (text : Bor (List ℕ)) → line ≡ quoted text.now ++ rest → BeginsWithValue line (Text text) rest
unfolding print_from
text_scanned line rest text is = record {
  value = json.string text.now;
  is = is ∙ ap (λ l. l ++ rest) (sym (append-nil (quoted text.now)));
  back = record { shallow = omega arith; numbers = tt; fits = refl };
  shows = refl;
}

in_range_by : (n : Option Num) (number : ℕ) → Some number ≡ option_and_then as_u64 n → is_some n ≡ true
in_range_by None number e = absurd (let never = e in cc)
in_range_by (Some n) number e = refl

pub number_scanned : (line rest : List ℕ) (number : ℕ) → BeginsWithNumber line number rest → BeginsWithValue line (Number (Some number)) rest
unfolding print_from
number_scanned line rest number scan = record {
  value = json.number scan.digits;
  is = scan.is ∙ ap (λ l. l ++ rest) (sym (append-nil scan.digits));
  back = record { shallow = omega arith; numbers = scan.valid; fits = in_range_by (number_of scan.digits) number scan.value };
  shows = (scan.digits, refl, scan.value);
}

pub truth_scanned : (line rest : List ℕ) (truth : Bool) → line ≡ print (json_tokens (json.boolean truth)) ++ rest → BeginsWithValue line (Truth truth) rest
truth_scanned line rest truth is = record {
  value = json.boolean truth;
  is = is;
  back = record { shallow = omega arith; numbers = tt; fits = refl };
  shows = refl;
}

pub list_scanned : (line inside rest : List ℕ) (rights : Rights) → line ≡ 91 ∷ inside → BeginsWithTexts inside rights rest
    → BeginsWithValue line (Names (Some rights)) rest
unfolding print_from
list_scanned line inside rest rights is scan = record {
  value = json.array (items_of scan.texts);
  is = is ∙ ap (λ l. 91 ∷ l) scan.are;
  back = record { shallow = omega (arith, texts_are_flat scan.texts); numbers = no_numbers scan.texts; fits = texts_fit scan.texts };
  shows = (items_of scan.texts, refl, ap Some scan.named ∙ sym (rights_named no_rights scan.texts));
}

-- a member

pub member_scanned : (line after inside rest key : List ℕ) (slot : Slot) (before members : Members) → line ≡ quoted key ++ after → after ≡ 58 ∷ inside
    → BeginsWithValue inside slot rest → Keeps key slot before members → BeginsWithMember line before members rest
member_scanned line after inside rest key slot before members is colon scan kept = record {
  key = key;
  value = scan.value;
  is = is ∙ ap (λ l. quoted key ++ l) (colon ∙ ap (λ l. 58 ∷ l) scan.is);
  back = scan.back;
  shown = kept.shows scan.value scan.shows;
}

-- the members, one at a time

pub record HasScanned (after_value : Bool) (line rest : List ℕ) (members : Members) : Type 0 where
  pub seen : json.Members
  pub are : (others : json.Members) → rest ≡ print_from after_value (members_tokens others) → line ≡ print (json_tokens (json.object (in_front seen others)))
  pub back : ReadBack seen
  pub shown : ShowMembers members seen

pub none_scanned : (line inside : List ℕ) (members : Members) → line ≡ 123 ∷ inside → AreMissing members → HasScanned false line inside members
unfolding print_from
none_scanned line inside members is missing = record {
  seen = json.no_members;
  are = λ others left. is ∙ ap (λ l. 123 ∷ l) left;
  back = tt;
  shown = λ name. rw (missing name) refl;
}

back_one_more : (ms : json.Members) (k : List ℕ) (j : json.Json) → ReadBack ms → ReadsBack j → ReadBack (in_front ms (json.member k j json.no_members))
back_one_more json.no_members k j all one = (one, tt)
back_one_more (json.member l i ms) k j all one = (all.0, back_one_more ms k j all.1 one)

pub one_more_scanned : (c : Bool) (line rest next behind : List ℕ) (before members : Members) → HasScanned c line rest before → rest ≡ comma c ++ next
    → BeginsWithMember next before members behind → HasScanned true line behind members
one_more_scanned c line rest next behind before members so_far is scan =
    let k = scan.key in
    let j = scan.value in
    record {
      seen = in_front so_far.seen (json.member k j json.no_members);
      are = λ others left.
          so_far.are (json.member k j others)
          (is ∙ ap (λ l. comma c ++ l) (scan.is ∙ ap (λ l. quoted k ++ (58 ∷ (print (json_tokens j) ++ l))) left) ∙ sym (print_member c k j others))
          ∙ ap (λ ms. print (json_tokens (json.object ms))) (in_front-one so_far.seen k j others);
      back = back_one_more so_far.seen k j so_far.back scan.back;
      shown = λ name. rw (get-one_more (spelt name) so_far.seen k j) (scan.shown name _ (so_far.shown name));
    }

pub all_scanned : (line rest : List ℕ) (members : Members) → HasScanned true line rest members → rest ≡ codes "}" → IsObject line members
unfolding print_from
all_scanned line rest members so_far is = record {
  entries = so_far.seen;
  is = so_far.are json.no_members is ∙ ap (λ ms. print (json_tokens (json.object ms))) (in_front-none so_far.seen);
  back = so_far.back;
  shown = so_far.shown;
}

-- the line

have_numbers : (ms : json.Members) → ReadBack ms → MembersHaveNumbers ms
have_numbers json.no_members back = tt
have_numbers (json.member k j ms) back = (back.0.numbers, have_numbers ms back.1)

are_shallow : (ms : json.Members) → ReadBack ms → members_depth ms ≤ 1
are_shallow json.no_members back = omega arith
are_shallow (json.member k j ms) back = omega (arith, back.0.shallow, are_shallow ms back.1)

all_fit : (ms : json.Members) → ReadBack ms → have_range ms ≡ true
all_fit json.no_members back = refl
all_fit (json.member k j ms) back = rw (back.0.fits, all_fit ms back.1) refl

value-print : (line : List ℕ) (j : json.Json) → line ≡ print (json_tokens j) → HasNumbers j → depth j ≤ 127 → json.value 127 (tokens line) ≡ Some (j, [])
value-print line j is numbers shallow =
    ap (λ l. json.value 127 (tokens l)) is ∙ ap (json.value 127) (tokens-print (json_tokens j) (ArePrintable-json_tokens j numbers))
    ∙ ap (json.value 127) (sym (append-nil (json_tokens j))) ∙ value-json_tokens j 127 [] shallow

pub line_scanned : (line : List ℕ) (members : Members) → IsUtf8 line → IsObject line members → IsLine line members
line_scanned line members utf8 scan =
    let j = json.object scan.entries in
    let parses : ok_or (parsed line) Json ≡ Ok j =
    rw (value-print line j scan.is (have_numbers scan.entries scan.back) (omega (arith, are_shallow scan.entries scan.back))) refl in
    record {
      value = data_of j;
      is = in_range line j utf8 parses (all_fit scan.entries scan.back);
      hold = record { read = j; is = refl; stands = scan.shown };
    }
