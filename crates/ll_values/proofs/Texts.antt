-- Bytes that are text have the value that is read from them, and others have none.
use Rattle.std.proofs.Common.{◌≡◌, ℕ, suc, ◌+◌, ◌<◌, ◌≤◌, List, [], ◌∷◌, length, drop, get_or, Bool}
use Rattle.std.proofs.Common.{true, false, Option, Some, None, Ok, Err, cond, refl, sym, ap, ◌∙◌, add-one}
use Rattle.std.specs.Prelude.{IsUtf8}
use Rattle.std.specs.Str.{is_utf8}
use Rattle.std.proofs.lemmas.Str.{is_utf8-from_IsUtf8, IsUtf8-from_is_utf8}
use Rattle.std.proofs.Math.Seq.{drop-cons}
use Rattle.std.proofs.Math.ListN.{drop_of_length-le}
use Rattle.serde_json.specs.Data.{Data}
use Rattle.serde_json.specs.Read.{read}
use Rattle.serde_json.specs.View.{view, items_view}
use Rattle.serde_json.specs.declared.value.Value.{Value}
use Rattle.ll_lines.specs.declared.fault.Cause.{Cause}
use Rattle.ll_lines.specs.Members.{value_of, text_in, fold_texts}

pub value_of_text : (line : List ℕ) (value : Data) → IsUtf8 line → read line ≡ Some value → value_of line ≡ Some value
value_of_text line value text reads = rw (is_utf8-from_IsUtf8 line text) reads

if_text : {V : Type 0} (line : List ℕ) (is_text : Bool) (r : Option V) → is_utf8 line ≡ is_text → (IsUtf8 line → r ≡ None) → cond is_text r None ≡ None
if_text line true r e unread = unread (IsUtf8-from_is_utf8 line e)
if_text line false r e unread = refl

pub value_of_other : (line : List ℕ) → (IsUtf8 line → read line ≡ None) → value_of line ≡ None
value_of_other line unread = if_text line (is_utf8 line) (read line) refl unread

-- a loop over the texts of a list: what is put together so far, and what is left
pub fold_texts_next : {Whole : Type 0} (add : Whole → List ℕ → Whole) (whole : Whole) (values : List Value) (i : ℕ) (value : Value) (text : List ℕ)
    → i < length values → value ≡ get_or values i value
    → text_in (view value) ≡ Ok text → fold_texts add whole (items_view (drop i values)) ≡ fold_texts add (add whole text) (items_view (drop (i + 1) values))
unfolding fold_texts
fold_texts_next add whole values i value text lt is reads =
    let cut : drop i values ≡ value ∷ drop (suc i) values = drop-cons values i value lt ∙ ap (λ v. v ∷ drop (suc i) values) (sym is) in
    rw (cut, add-one, reads) refl

pub fold_texts_fault : {Whole : Type 0} (add : Whole → List ℕ → Whole) (whole : Whole) (values : List Value) (i : ℕ) (value : Value) (cause : Cause)
    → i < length values → value ≡ get_or values i value
    → text_in (view value) ≡ Err cause → fold_texts add whole (items_view (drop i values)) ≡ Err cause
unfolding fold_texts
fold_texts_fault add whole values i value cause lt is fails =
    let cut : drop i values ≡ value ∷ drop (suc i) values = drop-cons values i value lt ∙ ap (λ v. v ∷ drop (suc i) values) (sym is) in
    rw (cut, fails) refl

pub fold_texts_end : {Whole : Type 0} (add : Whole → List ℕ → Whole) (whole : Whole) (values : List Value) (i : ℕ) → length values ≤ i
    → fold_texts add whole (items_view (drop i values)) ≡ Ok whole
unfolding fold_texts
fold_texts_end add whole values i le = let none : drop i values ≡ [] = drop_of_length-le values le in rw none refl
