-- Values by the token that they begin with.
use Rattle.std.proofs.Common.{◌≡◌, ℕ, suc, List, [], ◌∷◌, Bool, true, false, length, Option, Some, None, refl, ap, ap₂, ◌∙◌}
use Rattle.std.specs.Prelude.{is_some, option_and_then}
use denote.Ref.{Bor}
use Rattle.serde_json.specs.Find.{as_u64}
use Rattle.serde_json.specs.Read.{number_of}
use Rattle.json.specs.Token.{Token}
use Rattle.json.specs.Json as json
use Rattle.json.specs.Find.{get}
use Rattle.json.proofs.Grammar.{value_is}
use Rattle.ll_lines.specs.Values.{is_in_range, are_in_range, have_range}
use Rattle.ll_members.specs.Slots.{spelt, folded, IsWhole, BeginNoValue, IsReadFrom, AreReadFrom, IsValue, AreMissing, Stands, no_rights}
use Rattle.ll_members.specs.Slots.{behind_value, behind_items, behind_members}
use Rattle.ll_members.specs.declared.rights.Rights.{Rights}
use Rattle.ll_members.specs.declared.row.Members.{Members}
use Rattle.ll_members.specs.declared.row.Slot.{Slot}
use Rattle.ll_members.specs.declared.row.Slot.TheVariants.{Text, Number, Truth, Names, Other}
use Rattle.ll_members.proofs.WalkLemmas.{found, behind-map}
use Rattle.ll_members.proofs.RightsLemmas.{found_rights}

-- values of one token

pub whole_text : (old new : List Token) (text : Bor (List ℕ)) → old ≡ Token.string text.now ∷ new → IsWhole old new (Text text)
whole_text old new text is =
    record { value = json.string text.now; is = λ depth. rw is (value_is depth _); fits = refl; shows = refl; no_members = λ name. refl }

pub whole_truth : (old new : List Token) (truth : Bool) → old ≡ Token.boolean truth ∷ new → IsWhole old new (Truth truth)
whole_truth old new truth is =
    record { value = json.boolean truth; is = λ depth. rw is (value_is depth _); fits = refl; shows = refl; no_members = λ name. refl }

pub whole_null : (old new : List Token) → old ≡ Token.null ∷ new → IsWhole old new Other
whole_null old new is = record {
  value = json.null;
  is = λ depth. rw is (value_is depth _);
  fits = refl;
  shows = (json.null, refl, record { no_text = refl; no_number = refl; no_truth = refl; no_list = refl });
  no_members = λ name. refl;
}

pub whole_number : (old new : List Token) (text : List ℕ) (n : Option ℕ) → old ≡ Token.number text ∷ new → is_some (number_of text) ≡ true
    → n ≡ option_and_then as_u64 (number_of text) → IsWhole old new (Number n)
whole_number old new text n is range number =
    record { value = json.number text; is = λ depth. rw is (value_is depth _); fits = range; shows = (text, refl, number); no_members = λ name. refl }

-- no value

pub nothing_left : (old : List Token) → old ≡ [] → BeginNoValue old
nothing_left old is = record { none = λ depth. rw (is, value_is depth []) refl }

pub out_of_range : (old new : List Token) (text : List ℕ) → old ≡ Token.number text ∷ new → is_some (number_of text) ≡ false → BeginNoValue old
out_of_range old new text is range = record { none = λ depth. rw (is, value_is depth (Token.number text ∷ new), range) refl }

pub ruleset begins = (whole_text, whole_truth, whole_null, whole_number, nothing_left)

-- a list or an object

begun_array : (inner : ℕ) (ts : List Token)
    → json.value (suc inner) (Token.begin_array ∷ ts) ≡ json.parse_map json.array (json.items (json.value inner) (length ts) ts)
unfolding json.value
begun_array inner ts = refl

begun_object : (inner : ℕ) (ts : List Token)
    → json.value (suc inner) (Token.begin_object ∷ ts) ≡ json.parse_map json.object (json.members (json.value inner) (length ts) ts)
unfolding json.value
begun_object inner ts = refl

pub no_value : (depth : ℕ) (old : List Token) → BeginNoValue old → behind_value depth old ≡ None
no_value depth old nothing = nothing.none depth

pub array_too_deep : (depth : ℕ) (old ts : List Token) → depth ≡ 0 → old ≡ Token.begin_array ∷ ts → behind_value depth old ≡ None
unfolding json.value
array_too_deep depth old ts none is = ap₂ behind_value none is

pub object_too_deep : (depth : ℕ) (old ts : List Token) → depth ≡ 0 → old ≡ Token.begin_object ∷ ts → behind_value depth old ≡ None
unfolding json.value
object_too_deep depth old ts none is = ap₂ behind_value none is

pub no_array : (depth inner : ℕ) (old ts : List Token) → suc inner ≡ depth → old ≡ Token.begin_array ∷ ts → behind_items inner ts ≡ None
    → behind_value depth old ≡ None
no_array depth inner old ts within is none =
    rw (← within, is, begun_array inner ts)
    (behind-map is_in_range are_in_range json.array (λ js. refl) (json.items (json.value inner) (length ts) ts) ∙ none)

pub no_object : (depth inner : ℕ) (old ts : List Token) → suc inner ≡ depth → old ≡ Token.begin_object ∷ ts → behind_members inner ts ≡ None
    → behind_value depth old ≡ None
no_object depth inner old ts within is none =
    rw (← within, is, begun_object inner ts)
    (behind-map is_in_range have_range json.object (λ ms. refl) (json.members (json.value inner) (length ts) ts) ∙ none)

-- a slot

pub read_whole : (depth : ℕ) (old new : List Token) (slot : Slot) → IsWhole old new slot → IsReadFrom depth old new slot
read_whole depth old new slot whole = record { value = whole.value; is = whole.is depth; fits = whole.fits; shows = whole.shows }

pub read_array : (depth inner : ℕ) (old ts new : List Token) (rights : Option Rights) → suc inner ≡ depth → old ≡ Token.begin_array ∷ ts
    → folded (Some no_rights) (json.items (json.value inner) (length ts) ts) ≡ Some (rights, new) → IsReadFrom depth old new (Names rights)
read_array depth inner old ts new rights within is left =
    let js = found_rights (Some no_rights) (json.items (json.value inner) (length ts) ts) rights new left in
    record {
      value = json.array js.value;
      is = rw (← within, is) (begun_array inner ts ∙ ap (json.parse_map json.array) js.is);
      fits = js.fits;
      shows = (js.value, refl, js.rights_are);
    }

pub read_object : (depth inner : ℕ) (old ts new : List Token) → suc inner ≡ depth → old ≡ Token.begin_object ∷ ts → behind_members inner ts ≡ Some new
    → IsReadFrom depth old new Other
read_object depth inner old ts new within is left =
    let ms = found have_range (json.members (json.value inner) (length ts) ts) new left in
    record {
      value = json.object ms.value;
      is = rw (← within, is) (begun_object inner ts ∙ ap (json.parse_map json.object) ms.is);
      fits = ms.fits;
      shows = (json.object ms.value, refl, record { no_text = refl; no_number = refl; no_truth = refl; no_list = refl });
    }

pub ruleset slots_read = (no_value, no_array, no_object, read_whole, read_array, read_object)

-- the value of a line, where one that is no object has no members

stands_for_none : (members : Members) (value : json.Json) → AreMissing members → ((name : List ℕ) → get name value ≡ None) → Stands members value
stands_for_none members value missing none name = rw (missing name, none (spelt name)) refl

pub whole_stands : (old new : List Token) (slot : Slot) (members : Members) → IsWhole old new slot → AreMissing members → IsValue old new members
whole_stands old new slot members whole missing =
    record { value = whole.value; is = whole.is 127; fits = whole.fits; stands = stands_for_none members whole.value missing whole.no_members }

pub array_stands : (old ts new : List Token) (rights : Option Rights) (members : Members) → AreMissing members → old ≡ Token.begin_array ∷ ts
    → folded (Some no_rights) (json.items (json.value 126) (length ts) ts) ≡ Some (rights, new) → IsValue old new members
array_stands old ts new rights members missing is left =
    let js = found_rights (Some no_rights) (json.items (json.value 126) (length ts) ts) rights new left in
    record {
      value = json.array js.value;
      is = rw is (begun_array 126 ts ∙ ap (json.parse_map json.array) js.is);
      fits = js.fits;
      stands = stands_for_none members (json.array js.value) missing (λ name. refl);
    }

pub object_stands : (old ts new : List Token) (members : Members) → old ≡ Token.begin_object ∷ ts → AreReadFrom 126 ts new members → IsValue old new members
object_stands old ts new members is read =
    record {
      value = json.object read.entries;
      is = rw is (begun_object 126 ts ∙ ap (json.parse_map json.object) read.are);
      fits = read.fit;
      stands = read.shown;
    }
