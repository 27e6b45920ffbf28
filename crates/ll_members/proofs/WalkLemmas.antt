-- Passing over the values of a list or of an object, a turn at a time.
use Rattle.std.proofs.Common.{◌≡◌, ℕ, zero, suc, ◌<◌, Bool, true, false, cond, List, Option, Some, None, refl, ap, ◌∙◌, arith}
use Rattle.json.specs.Token.{Token}
use Rattle.json.specs.Json.{Json, item, member, Parse, parse_map, after_end_array, read_key, items, members}
use Rattle.json.proofs.Grammar.{items_more, items_fail, members_more, members_fail}
use Rattle.ll_lines.specs.Values.{is_in_range, are_in_range, have_range}
use Rattle.ll_members.specs.Slots.{behind}

-- nothing is behind something that was parsed after a value that doesn't fit
behind-fails : {A : Type 0} (test : A → Bool) (with : A → A) → ((a : A) → test (with a) ≡ false) → (r : Option (A × List Token))
    → behind test (parse_map with r) ≡ None
behind-fails test with unfit None = refl
behind-fails test with unfit (Some p) = rw (unfit p.0) refl

-- what is behind something, where a test of it is another test of its part
pub behind-map : {A B : Type 0} (test : B → Bool) (part : A → Bool) (with : A → B) → ((a : A) → test (with a) ≡ part a)
    → (r : Option (A × List Token)) → behind test (parse_map with r) ≡ behind part r
behind-map test part with same None = refl
behind-map test part with same (Some p) = rw (same p.0) refl

-- what was parsed, where something is left behind it, and where nothing is
pub record Found {A : Type 0} (test : A → Bool) (r : Option (A × List Token)) (ts : List Token) : Type 0 where
  pub value : A
  pub is : r ≡ Some (value, ts)
  pub fits : test value ≡ true

module _ {A : Type 0} (test : A → Bool) where
  found_if : (p : A × List Token) (b : Bool) (ts : List Token) → test p.0 ≡ b → cond b (Some p.1) None ≡ Some ts → Found test (Some p) ts
  found_if p true ts is e =
      let same : p.1 ≡ ts = cc in
      record { value = p.0; is = ap (λ rest. Some (p.0, rest)) same; fits = is }
  found_if p false ts is e = absurd (let never = e in cc)

  pub found : (r : Option (A × List Token)) (ts : List Token) → behind test r ≡ Some ts → Found test r ts
  found None ts e = absurd (let never = e in cc)
  found (Some p) ts e = found_if p (test p.0) ts refl e

  unfit_if : (p : A × List Token) (b : Bool) → test p.0 ≡ b → cond b (Some p.1) None ≡ None → test p.0 ≡ false
  unfit_if p true is e = absurd (let never = e in cc)
  unfit_if p false is e = is

  pub is_unfit : (p : A × List Token) → behind test (Some p) ≡ None → test p.0 ≡ false
  is_unfit p e = unfit_if p (test p.0) refl e

module _ (p : Parse Json) where
  item_fails_by : (n : ℕ) (ts : List Token) (r : Option (Json × List Token)) → 0 < n → after_end_array ts ≡ None → p ts ≡ r → behind is_in_range r ≡ None
      → behind are_in_range (items p n ts) ≡ None
  item_fails_by n ts None h e is f = ap (behind are_in_range) (items_fail p n ts e is)
  item_fails_by n ts (Some q) h e is f =
      let unfit = is_unfit is_in_range q f in
      ap (behind are_in_range) (items_more p n ts q.1 q.0 h e is) ∙ behind-fails are_in_range (item q.0) (λ others. rw unfit refl) _

  pub item_fails : (n : ℕ) (ts : List Token) → after_end_array ts ≡ None → behind is_in_range (p ts) ≡ None → behind are_in_range (items p n ts) ≡ None
  unfolding items
  item_fails zero ts e f = refl
  item_fails (suc n) ts e f = item_fails_by (suc n) ts (p ts) (omega arith) e refl f

  member_fails_by : (n : ℕ) (ts s : List Token) (k : List ℕ) (r : Option (Json × List Token)) → 0 < n → read_key ts ≡ Some (Some k, s) → p s ≡ r
      → behind is_in_range r ≡ None → behind have_range (members p n ts) ≡ None
  member_fails_by n ts s k None h e is f = ap (behind have_range) (members_fail p n k ts s e is)
  member_fails_by n ts s k (Some q) h e is f =
      let unfit = is_unfit is_in_range q f in
      ap (behind have_range) (members_more p n k ts s q.1 q.0 h e is) ∙ behind-fails have_range (member k q.0) (λ others. rw unfit refl) _

  pub member_fails : (n : ℕ) (ts s : List Token) (k : List ℕ) → read_key ts ≡ Some (Some k, s) → behind is_in_range (p s) ≡ None
      → behind have_range (members p n ts) ≡ None
  unfolding members
  member_fails zero ts s k e f = refl
  member_fails (suc n) ts s k e f = member_fails_by (suc n) ts s k (p s) (omega arith) e refl f
