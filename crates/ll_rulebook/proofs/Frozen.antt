-- What a list has at each index after one write; what the processes hold after one of them holds or closes a ruleset; and
-- a ruleset that names a layer stays that layer.
use Rattle.std.proofs.Common.{◌≡◌, ℕ, suc, zero, ◌<◌, List, [], ◌∷◌, ◌++◌, length, Some}
use Rattle.std.proofs.Common.{None, cond, refl, arith, eqb, subst, All, ◌+◌, Option, get_or, inl, inr}
use Rattle.std.proofs.Common.{nat_cmp, length-set, length-append, Result, sym, ◌∙◌, ap, OnOk, OnErr}
use Rattle.std.proofs.Math.ListN.{set}
use Rattle.std.proofs.Math.Dec.{eqb-suc-zero, eqb-zero-suc, eqb-suc-suc}
use Rattle.std.specs.List.{slice_get, AllZip}
use Rattle.std.proofs.lemmas.Option.{get_or_from_slice_get, slice_get_within, same_Some, slice_get_read, slice_get-map}
use Rattle.std.specs.FinMap.{FinMap, get, empty, get-empty}
use Rattle.std.proofs.lemmas.Bool.{cases_eq, eq-eqb, ne_eqb}
use Rattle.ll_rulebook.specs.Stores.{held_by, NowHolds, BeginsHolding, Stock, AddsRule, Extends, Freezes, IsFrozenTo, AreFrozen, stock_of, rulesets_of}
use Rattle.ll_trace.proofs.Numbers.{slice_get-push}
use Rattle.std.specs.Option.{MatchOption}
use Rattle.std.specs.Result.{IsOkUnless}
use Rattle.std.proofs.lemmas.List.{length-map, map-set, set-get_or}
use Rattle.std.proofs.lemmas.List.Elements.{All-push, All-set, All-weaker}
use Rattle.std.proofs.lemmas.Result.{on_ok_weaker, on_err_weaker}
use Rattle.ll_rules.specs.declared.domain.LayerId.{LayerId}
use Rattle.ll_rules.specs.declared.errno.RuleFault.{RuleFault}
use Rattle.ll_rules.specs.declared.errno.RuleFault.TheVariants as faults
use Rattle.ll_rules.specs.Layers.{RulesOn}
use Rattle.ll_rules.specs.InTree.{AreInTree}
use Rattle.ll_rulebook.specs.declared.store.Stored.{Stored}

pub slice_get-set : {X : Type 0} (xs : List X) (i j : ℕ) (x : X) → i < length xs → slice_get (set xs i x) j ≡ cond (eqb j i) (Some x) (slice_get xs j)
slice_get-set [] i j x within = absurd (omega arith)
slice_get-set (first ∷ xs) zero zero x within = refl
slice_get-set (first ∷ xs) zero (suc j) x within = rw eqb-suc-zero refl
slice_get-set (first ∷ xs) (suc i) zero x within = rw eqb-zero-suc refl
slice_get-set (first ∷ xs) (suc i) (suc j) x within = rw eqb-suc-suc (slice_get-set xs i j x (omega arith))

-- what holds of all holds of what is at an index
pub all_there : {X : Type 0} (P : X → Type 0) (xs : List X) (i : ℕ) (x : X) → All P xs → slice_get xs i ≡ Some x → P x
all_there P xs i x all eq = subst P (get_or_from_slice_get xs i x x eq) (all i x (slice_get_within xs i x eq))

module _ {A B : Type 0} (R : A → B → Type 0) where
  pub zip_push : (xs : List A) (ys : List B) (x : A) (y : B) → AllZip R xs ys → R x y → AllZip R (xs ++ x ∷ []) (ys ++ y ∷ [])
  zip_push [] [] x y all one = (one, tt)
  zip_push [] (b ∷ ys) x y all one = absurd all
  zip_push (a ∷ xs) [] x y all one = absurd all
  zip_push (a ∷ xs) (b ∷ ys) x y all one = (all.0, zip_push xs ys x y all.1 one)

  pub zip_set : (xs : List A) (ys : List B) (i : ℕ) (x : A) (y : B) → AllZip R xs ys → R x y → AllZip R (set xs i x) (set ys i y)
  zip_set [] [] i x y all one = tt
  zip_set [] (b ∷ ys) i x y all one = absurd all
  zip_set (a ∷ xs) [] i x y all one = absurd all
  zip_set (a ∷ xs) (b ∷ ys) zero x y all one = (one, all.1)
  zip_set (a ∷ xs) (b ∷ ys) (suc i) x y all one = (all.0, zip_set xs ys i x y all.1 one)

  -- what is at an index of the one has its other at this index
  pub zip_at : (xs : List A) (ys : List B) (i : ℕ) (x : A) → AllZip R xs ys → slice_get xs i ≡ Some x → (y : B) × (slice_get ys i ≡ Some y) × R x y
  zip_at [] ys i x all eq = cc
  zip_at (a ∷ xs) [] i x all eq = absurd all
  zip_at (a ∷ xs) (b ∷ ys) zero x all eq = (b, refl, subst (λ (c : A). R c b) (same_Some a x eq) all.0)
  zip_at (a ∷ xs) (b ∷ ys) (suc i) x all eq = zip_at xs ys i x all.1 eq

-- ---- what the processes hold

pub index_is : (tables : List (FinMap nat_cmp ℕ)) (process number : ℕ) (held : FinMap nat_cmp ℕ) → process < length tables → held ≡ get_or tables process held →
    get held number ≡ held_by tables process number
unfolding held_by
index_is tables process number held within read = rw (slice_get_read tables (length tables) process held refl within read) refl

-- one process's table is this now
pub holds_after : (tables : List (FinMap nat_cmp ℕ)) (process : ℕ) (table : FinMap nat_cmp ℕ) (held : ℕ → Option ℕ) → process < length tables →
    ((q : ℕ) → get table q ≡ held q) → NowHolds tables (set tables process table) (length tables) process held
unfolding held_by
holds_after tables process table held within same = record {
  counted = length-set tables process table;
  holds = λ p q. elim (cases_eq p process) [
    | inl own ↦ rw (slice_get-set tables process p table within, eq-eqb p process own) (same q)
    | inr other ↦ rw (slice_get-set tables process p table within, ne_eqb p process other) refl
  ];
}

-- one process more, whose table is this
pub begins_after : (tables : List (FinMap nat_cmp ℕ)) (table : FinMap nat_cmp ℕ) (held : ℕ → Option ℕ) →
    ((q : ℕ) → get table q ≡ held q) → NowHolds tables (tables ++ table ∷ []) (length tables + 1) (length tables) held
unfolding held_by
begins_after tables table held same = record {
  counted = length-append tables (table ∷ []);
  holds = λ p q. elim (cases_eq p (length tables)) [
    | inl new ↦ rw (slice_get-push tables p table, eq-eqb p (length tables) new) (same q)
    | inr old ↦ rw (slice_get-push tables p table, ne_eqb p (length tables) old) refl
  ];
}

pub start_after : (tables new : List (FinMap nat_cmp ℕ)) (table : FinMap nat_cmp ℕ) → new ≡ tables ++ table ∷ [] → table ≡ empty
    → BeginsHolding tables new (λ _. None)
start_after tables new table is none = rw is (begins_after tables table (λ _. None) (λ q. rw none (get-empty nat_cmp q)))

-- all as it was
pub holds_same : (tables : List (FinMap nat_cmp ℕ)) (process : ℕ) → NowHolds tables tables (length tables) process (held_by tables process)
holds_same tables process = record {
  counted = refl;
  holds = λ p q. elim (cases_eq p process) [
    | inl own ↦ rw (eq-eqb p process own, own) refl
    | inr other ↦ rw (ne_eqb p process other) refl
  ];
}

-- ---- layers

pub extends_same : (layers : List (RulesOn ℕ)) → Extends layers layers
extends_same layers = record { more = []; is_more = search Rattle.std.proofs.Common.rules; one = omega arith }

-- an index of the store, as contracts see it
module _ (stored : List Stored) (layers : List (RulesOn ℕ)) (stock : Stock) (view_is : stock_of stored layers ≡ stock) (index : ℕ)
    (there : index < length stock.rulesets) (one : Stored) (read : one ≡ get_or stored index one) where
  stands : slice_get stored index ≡ Some one
  stands = slice_get_read stored (length stored) index one refl
      (omega (arith, there, ap (λ (s : Stock). length s.rulesets) view_is, length-map stored (λ (one : Stored). one.«ruleset»))) read

  ruleset_stands : slice_get (rulesets_of stored) index ≡ Some one.«ruleset»
  ruleset_stands = rw (slice_get-map (λ (one : Stored). one.«ruleset») stored index, stands) refl

  pub ruleset_there : slice_get stock.rulesets index ≡ Some one.«ruleset»
  ruleset_there = rw (← view_is) ruleset_stands

  same_there : set stored index one ≡ stored
  same_there = ap (λ (s : Stored). set stored index s) read ∙ set-get_or stored index one

  -- it stays the layer that it names
  pub frozen_already : (id : LayerId) → one.frozen ≡ Some id → AreFrozen stored layers → Freezes stock (stock_of (set stored index one) layers) index id
  frozen_already id named are = rw (← view_is) record {
    layer = all_there (IsFrozenTo layers) stored index one are stands id named ∙ sym ruleset_stands;
    rulesets = ap rulesets_of same_there;
    layers = extends_same layers;
    inside = λ tree rulesets layers. layers;
  }

  -- it is frozen to a new layer
  pub freezes : (next : Stored) (id : LayerId) → next.«ruleset» ≡ one.«ruleset» → id.0 ≡ length layers
      → Freezes stock (stock_of (set stored index next) (layers ++ one.«ruleset» ∷ [])) index id
  freezes next id same last = rw (← view_is) record {
    layer = rw (slice_get-push layers id.0 one.«ruleset», eq-eqb id.0 (length layers) last) (sym ruleset_stands);
    rulesets = map-set (λ (one : Stored). one.«ruleset») stored index next ∙ rw same (sym (map-set (λ (one : Stored). one.«ruleset») stored index one))
        ∙ ap rulesets_of same_there;
    layers = record { more = one.«ruleset» ∷ []; is_more = refl; one = omega arith };
    inside = λ tree rulesets layers_in.
        All-push (AreInTree tree) layers one.«ruleset» layers_in (all_there (AreInTree tree) (rulesets_of stored) index one.«ruleset» rulesets ruleset_stands);
  }

  pub frozen_now : (next : Stored) → ((id : LayerId) → next.frozen ≡ Some id → id.0 ≡ length layers) → next.«ruleset» ≡ one.«ruleset» → AreFrozen stored layers
      → AreFrozen (set stored index next) (layers ++ one.«ruleset» ∷ [])
  frozen_now next last same are =
      All-set (IsFrozenTo (layers ++ one.«ruleset» ∷ [])) stored index next
      (λ id named. rw (slice_get-push layers id.0 one.«ruleset», eq-eqb id.0 (length layers) (last id named), same) refl)
      (All-weaker (IsFrozenTo layers) (IsFrozenTo (layers ++ one.«ruleset» ∷ [])) (λ other frozen id named.
      let eq = frozen id named in
      let within : id.0 < length layers = slice_get_within layers id.0 other.«ruleset» eq in
      rw (slice_get-push layers id.0 one.«ruleset», ne_eqb id.0 (length layers) (λ same. omega arith)) eq) stored are)

  pub adds_rule : (fault : RulesOn ℕ → Option RuleFault) (IsAdded : RulesOn ℕ → RulesOn ℕ → Type 0) (result : Result (Unit {0}) RuleFault) (next : Stored) →
      MatchOption (fault one.«ruleset») (IsOkUnless result faults.Memory) (λ f. result ≡ Result.Err f) → OnOk result (IsAdded one.«ruleset» next.«ruleset»)
      → OnErr result (next ≡ one) →
      AddsRule fault IsAdded result index stock (stock_of (set stored index next) layers)
  adds_rule fault IsAdded result next told ok err = rw (← view_is) record {
    before = one.«ruleset»;
    was = ruleset_stands;
    told = told;
    added =
        on_ok_weaker result
        (λ is. record { after = next.«ruleset»; changed = rw (map-set (λ (one : Stored). one.«ruleset») stored index next) refl; is_now = is }) ok;
    refused = on_err_weaker result (λ same. ap (λ (s : Stored). stock_of (set stored index s) layers) same ∙ ap (λ all. stock_of all layers) same_there) err;
  }
