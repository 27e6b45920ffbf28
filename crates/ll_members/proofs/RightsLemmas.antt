-- The rights that the values of a list stand for, a value at a time.
use Rattle.std.proofs.Common.{◌≡◌, ℕ, ◌-◌, ◌<◌, ◌≤◌, Bool, true, false, cond, List, length, Option, Some, None, refl, sym, ap, ◌∙◌, arith}
use Rattle.std.specs.Prelude.{ok_or}
use Rattle.json.specs.Token.{Token}
use Rattle.json.specs.Json as json
use Rattle.json.specs.Find.{as_str}
use Rattle.json.proofs.Grammar.{items_more, items_end}
use Rattle.ll_lines.specs.declared.fault.Cause.TheVariants.{Field}
use Rattle.ll_lines.specs.Values.{is_in_range, are_in_range}
use Rattle.ll_members.specs.Slots.{IsReadFrom, with_text, rights_of, folded, text_from, no_rights, behind, behind_value, behind_items}
use Rattle.ll_members.specs.declared.rights.Rights.{Rights}
use Rattle.ll_members.specs.declared.row.Slot.{Slot}
use Rattle.ll_members.proofs.WalkLemmas.{item_fails}
use Rattle.ll_members.proofs.ShownLemmas.{slot_says}

-- a list that does not fit has no rights, and nothing behind it
none_too : {A B : Type 0} (fits : Bool) (one : A) (other : B) → cond fits (Some one) None ≡ None → cond fits (Some other) None ≡ None
none_too true one other none = absurd (let never = none in cc)
none_too false one other none = refl

folded-none : (rights : Option Rights) (r : Option (json.Items × List Token)) → behind are_in_range r ≡ None → folded rights r ≡ None
folded-none rights None none = refl
folded-none rights (Some p) none = none_too (are_in_range p.0) p.1 (rights_of rights p.0, p.1) none

behind-none : (rights : Option Rights) (r : Option (json.Items × List Token)) → folded rights r ≡ None → behind are_in_range r ≡ None
behind-none rights None none = refl
behind-none rights (Some p) none = none_too (are_in_range p.0) (rights_of rights p.0, p.1) p.1 none

-- the list that was parsed, where its rights are known
pub record FoundRights (rights : Option Rights) (r : Option (json.Items × List Token)) (all : Option Rights) (ts : List Token) : Type 0 where
  pub value : json.Items
  pub is : r ≡ Some (value, ts)
  pub fits : are_in_range value ≡ true
  pub rights_are : all ≡ rights_of rights value

found_if : (rights : Option Rights) (p : json.Items × List Token) (b : Bool) (all : Option Rights) (ts : List Token) → are_in_range p.0 ≡ b
    → cond {A = Option (Option Rights × List Token)} b (Some (rights_of rights p.0, p.1)) None ≡ Some (all, ts) → FoundRights rights (Some p) all ts
found_if rights p true all ts is e =
    let both : ◌≡◌ {A = Option Rights × List Token} (rights_of rights p.0, p.1) (all, ts) = cc in
    record { value = p.0; is = ap (λ q. Some (p.0, q.1)) both; fits = is; rights_are = sym (ap (λ q. q.0) both) }
found_if rights p false all ts is e = absurd (let never = e in cc)

pub found_rights : (rights : Option Rights) (r : Option (json.Items × List Token)) (all : Option Rights) (ts : List Token) → folded rights r ≡ Some (all, ts)
    → FoundRights rights r all ts
found_rights rights None all ts e = absurd (let never = e in cc)
found_rights rights (Some p) all ts e = found_if rights p (are_in_range p.0) all ts refl e

-- one value more
folded-item : (rights : Option Rights) (value : json.Json) (r : Option (json.Items × List Token)) → is_in_range value ≡ true
    → folded rights (json.parse_map (json.item value) r) ≡ folded (with_text rights (ok_or (as_str value) Field)) r
folded-item rights value None fits = refl
folded-item rights value (Some p) fits = rw fits refl

-- the rights of the values so far, and the tokens that are left of the list
pub record HasFolded (depth : ℕ) (start left : List Token) (rights : Option Rights) : Type 0 where
  pub bound : ℕ
  pub enough : length left ≤ bound
  pub shorter : length left ≤ length start
  pub are : folded (Some no_rights) (json.items (json.value depth) (length start) start) ≡ folded rights (json.items (json.value depth) bound left)

pub folded_none : (depth : ℕ) (start : List Token) → HasFolded depth start start (Some no_rights)
folded_none depth start = record { bound = length start; enough = omega arith; shorter = omega arith; are = refl }

pub folded_more : (depth : ℕ) (start left new : List Token) (rights more : Option Rights) (slot : Slot) → HasFolded depth start left rights
    → json.after_end_array left ≡ None → IsReadFrom depth left new slot → length new < length left → more ≡ with_text rights (text_from slot)
    → HasFolded depth start new more
folded_more depth start left new rights more slot so_far going read shorter is =
    let n = so_far.bound in
    let p = json.value depth in
    let text : more ≡ with_text rights (ok_or (as_str read.value) Field) = is ∙ ap (with_text rights) (sym (slot_says slot (Some read.value) read.shows).0) in
    record {
      bound = n - 1;
      enough = omega (arith, so_far.enough);
      shorter = omega (arith, so_far.shorter);
      are = so_far.are ∙ ap (folded rights) (items_more p n left new read.value (omega (arith, so_far.enough)) going read.is)
          ∙ folded-item rights read.value (json.items p (n - 1) new) read.fits ∙ ap (λ r. folded r (json.items p (n - 1) new)) (sym text);
    }

pub folded_fails : (depth : ℕ) (start left same : List Token) (rights : Option Rights) → HasFolded depth start left rights
    → (json.after_end_array left ≡ None) × (same ≡ left) → behind_value depth same ≡ None → behind_items depth start ≡ None
folded_fails depth start left same rights so_far going none =
    let p = json.value depth in
    behind-none (Some no_rights) (json.items p (length start) start)
    (so_far.are ∙ folded-none rights (json.items p so_far.bound left) (item_fails p so_far.bound left going.0 (rw (← going.1) none)))

pub folded_all : (depth : ℕ) (start left new : List Token) (rights : Option Rights) → HasFolded depth start left rights
    → json.after_end_array left ≡ Some new → folded (Some no_rights) (json.items (json.value depth) (length start) start) ≡ Some (rights, new)
folded_all depth start left new rights so_far end =
    so_far.are ∙ ap (folded rights) (items_end (json.value depth) so_far.bound left new so_far.enough end)

pub ruleset folding = (folded_none, folded_more)
