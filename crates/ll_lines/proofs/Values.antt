-- The value that json reads is the one that serde_json says, where every number of it is in range.
use Rattle.std.proofs.Common.{◌≡◌, ℕ, ◌&&◌, List, Bool, true, false, Option, Some, None, Ok, Err, cond, option_map, refl, sym, ap, ◌∙◌, true≢false}
use Rattle.std.specs.Prelude.{IsUtf8, is_some, option_and_then, ok_or}
use Rattle.std.specs.Str.{is_utf8, bytes_eq}
use Rattle.std.proofs.lemmas.Slice.Eq.{bytes_eq-Decides}
use Rattle.std.proofs.lemmas.Str.{is_utf8-from_IsUtf8, IsUtf8-from_is_utf8}
use Rattle.json.specs.Json as json
use Rattle.json.specs.Find as json_find
use Rattle.serde_json.specs.Data.{Num, Data, null, boolean, number, string, array, object, Items, item, Members, no_members, put}
use Rattle.serde_json.specs.Read.{number_of, of_json, of_items, of_members, read}
use Rattle.serde_json.specs.Find.{get, get_member, as_str, as_number, as_u64, as_bool, as_array}
use Rattle.serde_json.proofs.Views.{get_member-put, get_member-put_other}
use Rattle.ll_lines.specs.declared.fault.Cause.{Cause}
use Rattle.ll_lines.specs.declared.fault.Cause.TheVariants.{Json, Field}
use Rattle.ll_lines.specs.Readers.{Fails}
use Rattle.ll_lines.specs.Members.{value_at, text_at, number_at, truth_at, flag_at, items_at, items_in, text_in}
use Rattle.ll_lines.specs.Values.{number_or_null, data_of, data_of_items, data_of_members, is_in_range, are_in_range, have_range, parsed}
use Rattle.ll_lines.proofs.MemoryLemmas.{unless-map}

-- what counts where a test holds
abbrev pub when : {A : Type 0} → Bool → A → Option A
when b x = cond b (Some x) None

map_when : {A B : Type 0} (f : A → B) (b : Bool) (x : A) → option_map f (when b x) ≡ when b (f x)
map_when f true x = refl
map_when f false x = refl

a_number : (n : Option Num) → option_map number n ≡ when (is_some n) (number_or_null n)
a_number (Some n) = refl
a_number None = refl

an_item : (b c : Bool) (value : Data) (others : Items)
    → option_and_then (λ d. option_map (item d) (when c others)) (when b value) ≡ when (b && c) (item value others)
an_item true c value others = map_when (item value) c others
an_item false c value others = refl

a_member : (b c : Bool) (value : Data) (read : Data → Option Members) (all : Members) → read value ≡ when c all
    → option_and_then read (when b value) ≡ when (b && c) all
a_member true c value read all reads = reads
a_member false c value read all reads = refl

-- the whole number below 2 ^ 64 that a number's text is
abbrev pub whole : List ℕ → Option ℕ
whole text = option_and_then as_u64 (number_of text)

-- what has its numbers in range converts, and what has not has no value
mutual
  converts : (value : json.Json) → of_json value ≡ when (is_in_range value) (data_of value)
  converts json.null = refl
  converts (json.boolean b) = refl
  converts (json.number text) = a_number (number_of text)
  converts (json.string text) = refl
  converts (json.array values) = ap (option_map array) (items_convert values) ∙ map_when array (are_in_range values) (data_of_items values)
  converts (json.object entries) =
      ap (option_map object) (members_convert entries no_members) ∙ map_when object (have_range entries) (data_of_members entries no_members)

  items_convert : (values : json.Items) → of_items values ≡ when (are_in_range values) (data_of_items values)
  items_convert json.no_items = refl
  items_convert (json.item value others) =
      rw (converts value, items_convert others) (an_item (is_in_range value) (are_in_range others) (data_of value) (data_of_items others))

  members_convert : (entries : json.Members) (earlier : Members) → of_members entries earlier ≡ when (have_range entries) (data_of_members entries earlier)
  members_convert json.no_members earlier = refl
  members_convert (json.member name value others) earlier =
      rw (converts value) (a_member (is_in_range value) (have_range others) (data_of value) (λ d. of_members others (put name d earlier)) _
      (members_convert others (put name (data_of value) earlier)))

-- the later of two values of a name
abbrev or_earlier : Option Data → Option Data → Option Data
or_earlier (Some value) earlier = Some value
or_earlier None earlier = earlier

found_or : (name key : List ℕ) (value : json.Json) (earlier : Members) (r : Option json.Json) (same : Bool) → bytes_eq key name ≡ same
    → or_earlier (option_map data_of r) (get_member name (put key (data_of value) earlier))
    ≡ or_earlier (option_map data_of (json_find.later_or r (cond same (Some value) None))) (get_member name earlier)
found_or name key value earlier (Some later) same is = refl
found_or name key value earlier None true is =
    let same : key ≡ name = (bytes_eq-Decides key name).0 is in
    rw (← same) (get_member-put key (data_of value) earlier)
found_or name key value earlier None false is =
    get_member-put_other name key (data_of value) earlier (λ same. true≢false (sym ((bytes_eq-Decides key name).1 (sym same)) ∙ is))

-- the last member of a name is the one that is kept
last_member : (name : List ℕ) (entries : json.Members) (earlier : Members)
    → get_member name (data_of_members entries earlier) ≡ or_earlier (option_map data_of (json_find.get_member name entries)) (get_member name earlier)
last_member name json.no_members earlier = refl
last_member name (json.member key value others) earlier =
    last_member name others (put key (data_of value) earlier) ∙ found_or name key value earlier (json_find.get_member name others) (bytes_eq key name) refl

or_none : (r : Option Data) → or_earlier r None ≡ r
or_none (Some value) = refl
or_none None = refl

-- what neither a number nor null has, the data of a number has not
module _ {A : Type 0} (f : Data → Option A) (no_null : f null ≡ None) (no_number : (n : Num) → f (number n) ≡ None) where
  none_of : (n : Option Num) → f (number_or_null n) ≡ None
  none_of (Some n) = no_number n
  none_of None = no_null

member_of : (name : List ℕ) (value : json.Json) → get name (data_of value) ≡ option_map data_of (json_find.get name value)
member_of name json.null = refl
member_of name (json.boolean b) = refl
member_of name (json.number text) = none_of (get name) refl (λ n. refl) (number_of text)
member_of name (json.string text) = refl
member_of name (json.array values) = refl
member_of name (json.object entries) = last_member name entries no_members ∙ or_none _

-- two finders that agree on each form of value agree
by_form : {A : Type 0} (f : Data → Option A) (g : json.Json → Option A) → f null ≡ g json.null → ((b : Bool) → f (boolean b) ≡ g (json.boolean b))
    → ((text : List ℕ) → f (number_or_null (number_of text)) ≡ g (json.number text)) → ((text : List ℕ) → f (string text) ≡ g (json.string text))
    → ((values : json.Items) → f (array (data_of_items values)) ≡ g (json.array values))
    → ((entries : json.Members) → f (object (data_of_members entries no_members)) ≡ g (json.object entries)) → (value : json.Json) → f (data_of value) ≡ g value
by_form f g at_null at_boolean at_number at_string at_array at_object json.null = at_null
by_form f g at_null at_boolean at_number at_string at_array at_object (json.boolean b) = at_boolean b
by_form f g at_null at_boolean at_number at_string at_array at_object (json.number text) = at_number text
by_form f g at_null at_boolean at_number at_string at_array at_object (json.string text) = at_string text
by_form f g at_null at_boolean at_number at_string at_array at_object (json.array values) = at_array values
by_form f g at_null at_boolean at_number at_string at_array at_object (json.object entries) = at_object entries

text_is : (value : json.Json) → as_str (data_of value) ≡ json_find.as_str value
text_is = by_form as_str json_find.as_str refl (λ _. refl) (λ text. none_of as_str refl (λ n. refl) (number_of text)) (λ _. refl) (λ _. refl) (λ _. refl)

truth_is : (value : json.Json) → as_bool (data_of value) ≡ json_find.as_bool value
truth_is = by_form as_bool json_find.as_bool refl (λ _. refl) (λ text. none_of as_bool refl (λ n. refl) (number_of text)) (λ _. refl) (λ _. refl) (λ _. refl)

number_itself : (n : Option Num) → as_number (number_or_null n) ≡ n
number_itself (Some n) = refl
number_itself None = refl

number_is : (value : json.Json) → as_number (data_of value) ≡ option_and_then number_of (json_find.as_number value)
number_is =
    by_form as_number (λ value. option_and_then number_of (json_find.as_number value)) refl (λ _. refl) (λ text. number_itself (number_of text))
    (λ _. refl) (λ _. refl) (λ _. refl)

list_is : (value : json.Json) → as_array (data_of value) ≡ option_map data_of_items (json_find.as_array value)
list_is =
    by_form as_array (λ value. option_map data_of_items (json_find.as_array value)) refl (λ _. refl)
    (λ text. none_of as_array refl (λ n. refl) (number_of text)) (λ _. refl) (λ _. refl) (λ _. refl)

-- what a reader finds in a member's data, it finds in the member
module _ {A : Type 0} (f : Data → Option A) (g : json.Json → Option A) (same : (value : json.Json) → f (data_of value) ≡ g value) where
  in_member : (r : Option json.Json) → ok_or (option_and_then f (option_map data_of r)) Field ≡ ok_or (option_and_then g r) Field
  in_member None = refl
  in_member (Some value) = rw (same value) refl

pub text_at_data : (name : List ℕ) (value : json.Json)
    → text_at name (data_of value) ≡ ok_or (option_and_then json_find.as_str (json_find.get name value)) Field
unfolding text_at
text_at_data name value = rw (member_of name value) (in_member as_str json_find.as_str text_is (json_find.get name value))

pub truth_at_data : (name : List ℕ) (value : json.Json)
    → truth_at name (data_of value) ≡ ok_or (option_and_then json_find.as_bool (json_find.get name value)) Field
unfolding truth_at
truth_at_data name value = rw (member_of name value) (in_member as_bool json_find.as_bool truth_is (json_find.get name value))

whole_of_text : (r : Option (List ℕ)) → option_and_then as_u64 (option_and_then number_of r) ≡ option_and_then whole r
whole_of_text None = refl
whole_of_text (Some text) = refl

number_of_member : (r : Option json.Json) → ok_or (option_and_then as_u64 (option_and_then as_number (option_map data_of r))) Field
    ≡ ok_or (option_and_then whole (option_and_then json_find.as_number r)) Field
number_of_member None = refl
number_of_member (Some value) = rw (number_is value) (ap (λ n. ok_or n Field) (whole_of_text (json_find.as_number value)))

pub number_at_data : (name : List ℕ) (value : json.Json)
    → number_at name (data_of value) ≡ ok_or (option_and_then whole (option_and_then json_find.as_number (json_find.get name value))) Field
unfolding number_at
number_at_data name value = rw (member_of name value) (number_of_member (json_find.get name value))

pub flag_at_none : (name : List ℕ) (value : json.Json) → json_find.get name value ≡ None → flag_at name (data_of value) ≡ Ok false
unfolding flag_at
flag_at_none name value none = rw (member_of name value, none) refl

pub flag_at_some : (name : List ℕ) (value flag : json.Json) → json_find.get name value ≡ Some flag
    → flag_at name (data_of value) ≡ ok_or (json_find.as_bool flag) Field
unfolding flag_at
flag_at_some name value flag some = rw (member_of name value, some, truth_is flag) refl

pub items_at_none : (name : List ℕ) (value : json.Json) → json_find.get name value ≡ None → items_at name (data_of value) ≡ items_in None
unfolding items_at
items_at_none name value none = rw (member_of name value, none) refl

pub items_at_some : (name : List ℕ) (value list : json.Json) → json_find.get name value ≡ Some list
    → items_at name (data_of value) ≡ ok_or (option_map data_of_items (json_find.as_array list)) Field
unfolding items_at
items_at_some name value list some = rw (member_of name value, some, list_is list) refl

pub text_in_data : (value : json.Json) → text_in (data_of value) ≡ ok_or (json_find.as_str value) Field
unfolding text_in
text_in_data value = rw (text_is value) refl

-- a line's value, by what json parses

if_text : {V : Type 0} (line : List ℕ) (is_text : Bool) (r : Option V) → is_utf8 line ≡ is_text → (IsUtf8 line → ⊥) → cond is_text r None ≡ None
if_text line true r e other = absurd (other (IsUtf8-from_is_utf8 line e))
if_text line false r e other = refl

pub no_text : (line : List ℕ) → (IsUtf8 line → ⊥) → value_at line ≡ Err Json
unfolding value_at
no_text line other = rw (if_text line (is_utf8 line) (read line) refl other) refl

text : (line : List ℕ) → IsUtf8 line → value_at line ≡ ok_or (option_and_then of_json (parsed line)) Json
unfolding value_at
text line utf8 = rw (is_utf8-from_IsUtf8 line utf8) refl

parsed_as : (r : Option json.Json) (value : json.Json) → ok_or r Json ≡ Ok value → r ≡ Some value
parsed_as None value e = absurd (let no = e in cc)
parsed_as (Some other) value e = let same : other ≡ value = cc in ap Some same

not_parsed : (line : List ℕ) (cause : Cause) → IsUtf8 line → ok_or (parsed line) Json ≡ Err cause → value_at line ≡ Err cause
not_parsed line cause utf8 e =
    text line utf8 ∙ elim (parsed line) as (λ r. ok_or r Json ≡ Err cause → ok_or (option_and_then of_json r) Json ≡ Err cause)
    [ None ↦ λ same. (let is : Json ≡ cause = cc in ap Err is) | Some value ↦ λ same. absurd (let no = same in cc) ] e

pub parse_fails : (line : List ℕ) (cause : Cause) → IsUtf8 line → Fails cause (ok_or (parsed line) Json) → Fails cause (value_at line)
parse_fails line cause utf8 e =
    unless-map cause (ok_or (parsed line) Json) (Err cause) (value_at line) (Err cause) (λ fault. not_parsed line cause utf8 fault) e

pub in_range : (line : List ℕ) (value : json.Json) → IsUtf8 line → ok_or (parsed line) Json ≡ Ok value → is_in_range value ≡ true
    → value_at line ≡ Ok (data_of value)
in_range line value utf8 e range = text line utf8 ∙ rw (parsed_as (parsed line) value e, converts value, range) refl

pub out_of_range : (line : List ℕ) (value : json.Json) → IsUtf8 line → ok_or (parsed line) Json ≡ Ok value → is_in_range value ≡ false
    → value_at line ≡ Err Json
out_of_range line value utf8 e range = text line utf8 ∙ rw (parsed_as (parsed line) value e, converts value, range) refl
