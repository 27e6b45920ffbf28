-- The slot of a name, and what the slots show after one member more.
use Rattle.std.proofs.Common.{◌≡◌, ℕ, zero, suc, replicate, ◌<◌, Bool, true, false, cond, List}
use Rattle.std.proofs.Common.{length, get_or, slice_set, Option, Some, None, refl, sym, ap, ◌∙◌, arith, true≢false, lit<}
use Rattle.std.specs.Prelude.{◌≢◌, slice_get}
use Rattle.std.specs.Str.{bytes_eq}
use Rattle.std.proofs.lemmas.List.{get_or-set_same, get_or-set_other}
use Rattle.std.proofs.lemmas.Slice.Eq.{bytes_eq-Decides}
use Rattle.json.specs.Json as json
use Rattle.json.specs.Find.{later_or}
use Rattle.ll_members.specs.Slots.{names, spelt, named, slot_of, slot_at, Shows, Keeps, AreMissing}
use Rattle.ll_members.specs.declared.row.Members.{Members}
use Rattle.ll_members.specs.declared.row.Slot.{Slot}
use Rattle.ll_members.specs.declared.row.Slot.TheVariants.{Missing}
use Rattle.ll_members.specs.declared.row.Name.{Name}
use Rattle.ll_members.specs.declared.row.Name.TheVariants.{Op}

-- a name is named by its spelling, and its slot is its own
each_name : (name : Name) → (named (spelt name) ≡ Some name) × (slot_of name < 19) × (slice_get names (slot_of name) ≡ Some name)
unfolding named names spelt slot_of
each_name Op = (refl, lit< tt, refl)
each_name name = (refl, lit< tt, refl)

itself : (a b : Name) → Some a ≡ Some b → a ≡ b
itself a b e = cc

one_slot : (a b : Name) → slot_of a ≡ slot_of b → a ≡ b
one_slot a b e = itself a b (sym (each_name a).2 ∙ ap (slice_get names) e ∙ (each_name b).2)

one_name : (key : List ℕ) (a b : Name) → named key ≡ Some a → key ≡ spelt b → a ≡ b
one_name key a b e is = itself a b (sym e ∙ ap named is ∙ (each_name b).0)

-- a member whose key is no name shows nowhere
unnamed : (key : List ℕ) (name : Name) (same : Bool) (value : json.Json) (r : Option json.Json) (slot : Slot) → named key ≡ None → bytes_eq key (spelt name) ≡
    same
    → Shows slot r → Shows slot (later_or (cond same (Some value) None) r)
unnamed key name true value r slot none is shows =
    let key_is : key ≡ spelt name = (bytes_eq-Decides key (spelt name)).0 is in
    let some : None ≡ Some name = sym none ∙ ap named key_is ∙ (each_name name).0 in
    absurd (let never = some in cc)
unnamed key name false value r slot none is shows = shows

pub unnamed_kept : (key : List ℕ) (slot : Slot) (members : Members) → named key ≡ None → Keeps key slot members members
unnamed_kept key slot members none = record {
  shows = λ value is_shown name r shows. unnamed key name (bytes_eq key (spelt name)) value r (slot_at members name) none refl shows;
}

-- a member of this name shows in its slot, and all other slots are as they were
renamed : (key : List ℕ) (name other : Name) (same : Bool) (value : json.Json) (r : Option json.Json) (slots : List Slot) (slot : Slot) → named key ≡ Some name
    → key ≡ spelt name → length slots ≡ 19 → bytes_eq key (spelt other) ≡ same → Shows slot (Some value) → Shows (get_or slots (slot_of other) Missing) r
    → Shows (get_or (slice_set slots (slot_of name) slot) (slot_of other) Missing) (later_or (cond same (Some value) None) r)
renamed key name other true value r slots slot some spelt_so size is shows before =
    let key_is : key ≡ spelt other = (bytes_eq-Decides key (spelt other)).0 is in
    let one : name ≡ other = one_name key name other some key_is in
    let fits : slot_of name < length slots = omega (arith, (each_name name).1, size) in
    let now : get_or (slice_set slots (slot_of name) slot) (slot_of other) Missing ≡ slot =
    rw (← one) (get_or-set_same slots (slot_of name) slot Missing fits) in
    rw now shows
renamed key name other false value r slots slot some spelt_so size is shows before =
    let apart : slot_of other ≢ slot_of name =
    λ e. true≢false (sym ((bytes_eq-Decides key (spelt other)).1 (spelt_so ∙ ap spelt (sym (one_slot other name e)))) ∙ is) in
    let now : get_or (slice_set slots (slot_of name) slot) (slot_of other) Missing ≡ get_or slots (slot_of other) Missing =
    get_or-set_other slots (slot_of name) (slot_of other) slot Missing apart in
    rw now before

pub named_kept : (key : List ℕ) (before after : Members) (name : Name) (slot : Slot) → named key ≡ Some name → key ≡ spelt name
    → length before.slots ≡ 19 → after.slots ≡ slice_set before.slots (slot_of name) slot → Keeps key slot before after
named_kept key before after name slot some spelt_so size set = record {
  shows = λ value is_shown other r shows.
      rw set (renamed key name other (bytes_eq key (spelt other)) value r before.slots slot some spelt_so size refl is_shown shows);
}

-- a slot of a row that is missing everywhere

nth_missing : (n i : ℕ) → get_or (replicate n Missing) i Missing ≡ Missing
nth_missing zero i = refl
nth_missing (suc n) zero = refl
nth_missing (suc n) (suc i) = nth_missing n i

pub all_missing : (members : Members) → members.slots ≡ replicate 19 Missing → AreMissing members
all_missing members is name = rw is (nth_missing 19 (slot_of name))
