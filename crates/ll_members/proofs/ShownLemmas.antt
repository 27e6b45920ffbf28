-- What a slot reads as is what the member that it shows reads as.
use Rattle.std.proofs.Common.{◌≡◌, ℕ, List, Option, Some, None, Result, Err, refl, sym, ap, ◌∙◌}
use Rattle.std.specs.Prelude.{codes, option_and_then, ok_or}
use Rattle.json.specs.Json as json
use Rattle.json.specs.Find.{get, as_str, as_number, as_bool, as_array}
use Rattle.serde_json.specs.Data.{Data}
use Rattle.ll_lines.specs.declared.fault.Cause.{Cause}
use Rattle.ll_lines.specs.declared.fault.Cause.TheVariants.{Field}
use Rattle.ll_lines.specs.Members.{text_at, number_at, truth_at, flag_at, items_at, fold_texts, ◌>>=◌}
use Rattle.ll_lines.specs.Values.{data_of, data_of_items}
use Rattle.ll_lines.proofs.Values.{whole, text_in_data, text_at_data, number_at_data, truth_at_data, flag_at_none, flag_at_some, items_at_none, items_at_some}
use Rattle.ll_members.specs.Rights.{with_fs, fs_at, with_net, net_at, texts_at}
use Rattle.ll_members.specs.Slots.{with_rights, no_rights}
use Rattle.ll_members.specs.Slots.{spelt, slot_at, Shows, Hold, text_from, number_from, truth_from, flag_from, with_text, rights_of, rights_from, part_of}
use Rattle.ll_members.specs.declared.rights.Rights.{Rights}
use Rattle.ll_members.specs.declared.row.Members.{Members}
use Rattle.ll_members.specs.declared.row.Slot.{Slot}
use Rattle.ll_members.specs.declared.row.Slot.TheVariants.{Missing, Text, Number, Truth, Names, Other}
use Rattle.ll_members.specs.declared.row.Name.{Name}
use Rattle.ll_members.specs.declared.row.Name.TheVariants.{Fs, Net}

pub slot_says : (slot : Slot) (r : Option json.Json) → Shows slot r → (ok_or (option_and_then as_str r) Field ≡ text_from slot)
    × (ok_or (option_and_then whole (option_and_then as_number r)) Field ≡ number_from slot) × (ok_or (option_and_then as_bool r) Field ≡ truth_from slot)
slot_says Missing r e = rw e (refl, refl, refl)
slot_says (Text text) r e = rw e (refl, refl, refl)
slot_says (Number n) r e = rw (e.1, e.2) (refl, refl, refl)
slot_says (Truth b) r e = rw e (refl, refl, refl)
slot_says (Names rights) r e = rw e.1 (refl, refl, refl)
slot_says Other r e = rw e.1 (rw e.2.no_text refl, rw e.2.no_number refl, rw e.2.no_truth refl)

flag_shows : (name : List ℕ) (value : json.Json) (slot : Slot) → Shows slot (get name value) → flag_at name (data_of value) ≡ flag_from slot
flag_shows name value Missing e = flag_at_none name value e
flag_shows name value (Text text) e = flag_at_some name value (json.string text.now) e
flag_shows name value (Number n) e = flag_at_some name value (json.number e.0) e.1
flag_shows name value (Truth b) e = flag_at_some name value (json.boolean b) e
flag_shows name value (Names rights) e = flag_at_some name value (json.array e.0) e.1
flag_shows name value Other e = flag_at_some name value e.0 e.1 ∙ ap (λ b. ok_or b Field) e.2.no_truth

-- the set of a list, for files or for the network

none_stays : (items : json.Items) → rights_of None items ≡ None
none_stays json.no_items = refl
none_stays (json.item value others) = none_stays others

module _ {Set : Type 0} (part : Rights → Set) (add : Set → List ℕ → Set) (step : (rights : Rights) (name : List ℕ)
    → part (with_rights rights name) ≡ add (part rights) name) where
  abbrev Folds : json.Items → Rights → Type 0
  Folds items rights = fold_texts add (part rights) (data_of_items items) ≡ part_of part (ok_or (rights_of (Some rights) items) Field)

  folds_one : (rights : Rights) (others : json.Items) → ((more : Rights) → Folds others more) → (r : Option (List ℕ))
      → (ok_or r Field >>= λ name. fold_texts add (add (part rights) name) (data_of_items others))
      ≡ part_of part (ok_or (rights_of (with_text (Some rights) (ok_or r Field)) others) Field)
  folds_one rights others rest None = ap (λ (r : Option Rights). part_of part (ok_or r Field)) (sym (none_stays others))
  folds_one rights others rest (Some name) =
      ap (λ (whole : Set). fold_texts add whole (data_of_items others)) (sym (step rights name)) ∙ rest (with_rights rights name)

  folds : (items : json.Items) (rights : Rights) → Folds items rights
  unfolding fold_texts
  folds json.no_items rights = refl
  folds (json.item value others) rights =
      ap (λ (r : Result (List ℕ) Cause). r >>= λ name. fold_texts add (add (part rights) name) (data_of_items others)) (text_in_data value)
      ∙ folds_one rights others (folds others) (as_str value)

module _ {Set : Type 0} (part : Rights → Set) (add : Set → List ℕ → Set) (step : (rights : Rights) (name : List ℕ)
    → part (with_rights rights name) ≡ add (part rights) name) (name : List ℕ) (value : json.Json) where
  no_list : (one : json.Json) → get name value ≡ Some one → as_array one ≡ None → texts_at name add (part no_rights) (data_of value) ≡ Err Field
  no_list one is none =
      let field : items_at name (data_of value) ≡ Err Field = rw (items_at_some name value one is, none) refl in
      ap (λ r. r >>= fold_texts add (part no_rights)) field

  pub set_shows : (slot : Slot) → Shows slot (get name value) → texts_at name add (part no_rights) (data_of value) ≡ part_of part (rights_from slot)
  unfolding fold_texts
  set_shows Missing e = ap (λ r. r >>= fold_texts add (part no_rights)) (items_at_none name value e)
  set_shows (Text text) e = no_list (json.string text.now) e refl
  set_shows (Number n) e = no_list (json.number e.0) e.1 refl
  set_shows (Truth b) e = no_list (json.boolean b) e refl
  set_shows (Names rights) e =
      ap (λ r. r >>= fold_texts add (part no_rights)) (items_at_some name value (json.array e.0) e.1)
      ∙ folds part add step e.0 no_rights ∙ ap (λ (r : Option Rights). part_of part (ok_or r Field)) (sym e.2)
  set_shows Other e = no_list e.0 e.1 e.2.no_list

-- by the slot of a name

pub text_shown : (members : Members) (name : Name) (value : Data) → Hold members value → text_at (spelt name) value ≡ text_from (slot_at members name)
text_shown members name value hold =
    ap (text_at (spelt name)) hold.is ∙ text_at_data (spelt name) hold.read ∙ (slot_says (slot_at members name) _ (hold.stands name)).0

pub number_shown : (members : Members) (name : Name) (value : Data) → Hold members value → number_at (spelt name) value ≡ number_from (slot_at members name)
number_shown members name value hold =
    ap (number_at (spelt name)) hold.is ∙ number_at_data (spelt name) hold.read ∙ (slot_says (slot_at members name) _ (hold.stands name)).1

pub truth_shown : (members : Members) (name : Name) (value : Data) → Hold members value → truth_at (spelt name) value ≡ truth_from (slot_at members name)
truth_shown members name value hold =
    ap (truth_at (spelt name)) hold.is ∙ truth_at_data (spelt name) hold.read ∙ (slot_says (slot_at members name) _ (hold.stands name)).2

pub flag_shown : (members : Members) (name : Name) (value : Data) → Hold members value → flag_at (spelt name) value ≡ flag_from (slot_at members name)
flag_shown members name value hold =
    ap (flag_at (spelt name)) hold.is ∙ flag_shows (spelt name) hold.read (slot_at members name) (hold.stands name)

pub fs_shown : (members : Members) (value : Data) → Hold members value → fs_at value ≡ part_of (λ (r : Rights). r.fs) (rights_from (slot_at members Fs))
unfolding fs_at spelt
fs_shown members value hold =
    ap fs_at hold.is ∙ set_shows (λ (r : Rights). r.fs) with_fs (λ rights name. refl) (codes "fs") hold.read (slot_at members Fs) (hold.stands Fs)

pub net_shown : (members : Members) (value : Data) → Hold members value → net_at value ≡ part_of (λ (r : Rights). r.net) (rights_from (slot_at members Net))
unfolding net_at spelt
net_shown members value hold =
    ap net_at hold.is ∙ set_shows (λ (r : Rights). r.net) with_net (λ rights name. refl) (codes "net") hold.read (slot_at members Net) (hold.stands Net)
