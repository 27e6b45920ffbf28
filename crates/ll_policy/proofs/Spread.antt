-- What a layer grants on each object with those that it is in, and where rights pass.
use Rattle.std.proofs.Common.{◌≡◌, ℕ, zero, suc, ◌+◌, ◌<◌, ◌≤◌, Bool, true, false, not, ◌||◌, List, [], ◌∷◌, ◌++◌, map, length, drop, get_or}
use Rattle.std.proofs.Common.{refl, sym, ap, ◌∙◌, subst, add-one}
use Rattle.std.specs.List.{filter, range_with_len}
use Rattle.std.proofs.Math.Seq.{drop-cons}
use Rattle.std.proofs.Math.ListN.{drop_of_length-le}
use Rattle.std.proofs.lemmas.List.{length-map, map-append}
use Rattle.ll_rules.proofs.Booleans.{or_false}
use Rattle.ll_policy.specs.declared.regions.Passing.{Passing}
use Rattle.ll_policy.specs.Chains.{Granting, is_among, some_among, lets, passes, places_of}
use Rattle.ll_policy.specs.Regions.{chains_from, chains_of, region, single, spread, passes_with, numbers_of, TellsPassing}
use Rattle.ll_policy.proofs.Marks.{among}

mapped_at : {X Y : Type 0} (f : X → Y) (xs : List X) (k : ℕ) (d : X) (e : Y) → e ≡ f d → get_or (map f xs) k e ≡ f (get_or xs k d)
mapped_at f [] k d e is = is
mapped_at f (x ∷ xs) zero d e is = refl
mapped_at f (x ∷ xs) (suc k) d e is = mapped_at f xs k d e is

-- ---- the objects so far, and the parents of those that are left

abbrev granted_by : List ℕ → List ℕ → Bool
granted_by grants chain = some_among chain grants

pub record AreReached (parents grants left : List ℕ) (on : List Bool) : Type 0 where
  pub chains : List (List ℕ)
  pub so_far : on ≡ map (λ chain. some_among chain grants) chains
  pub all : chains_from chains left ≡ chains_of parents

pub reached_first : (parents grants : List ℕ) (on : List Bool) → on ≡ is_among 0 grants ∷ [] → AreReached parents grants parents on
unfolding some_among chains_of
reached_first parents grants on is = record {
  chains = (0 ∷ []) ∷ [];
  so_far = is ∙ ap (λ (b : Bool). b ∷ []) (sym (or_false (is_among 0 grants)));
  all = refl;
}

pub reached_next : (parents grants : List ℕ) (i : ℕ) (on more : List Bool) → i < length parents → AreReached parents grants (drop i parents) on
    → more ≡ on ++ (is_among (length on) grants || get_or on (get_or parents i 0) false) ∷ [] → AreReached parents grants (drop (i + 1) parents) more
unfolding some_among chains_from
reached_next parents grants i on more within here next =
    let parent = get_or parents i 0 in
    let chains = here.chains in
    let chain : List ℕ = length chains ∷ get_or chains parent [] in
    let counted : length on ≡ length chains = ap length here.so_far ∙ length-map chains (granted_by grants) in
    let above : get_or on parent false ≡ some_among (get_or chains parent []) grants =
    ap (λ (marks : List Bool). get_or marks parent false) here.so_far ∙ mapped_at (granted_by grants) chains parent [] false refl in
    let cut : drop i parents ≡ parent ∷ drop (i + 1) parents =
    drop-cons parents i 0 within ∙ ap (λ (n : ℕ). parent ∷ drop n parents) (sym (add-one i)) in
    record {
      chains = chains ++ chain ∷ [];
      so_far = next ∙ rw (counted, above, here.so_far, map-append (granted_by grants) chains (chain ∷ [])) refl;
      all = ap (chains_from chains) (sym cut) ∙ here.all;
    }

pub reached_all : (parents grants : List ℕ) (i : ℕ) (on : List Bool) → length parents ≤ i → AreReached parents grants (drop i parents) on
    → on ≡ map (λ chain. some_among chain grants) (chains_of parents)
unfolding chains_from
reached_all parents grants i on past here =
    here.so_far
    ∙ ap (map (granted_by grants)) (ap (chains_from here.chains) (sym (drop_of_length-le parents past)) ∙ here.all)

-- ---- what passes

pub reached_there : (parents : List ℕ) (layer : Granting) (n : ℕ)
    → some_among (single n) (spread parents layer).grants ≡ some_among (region parents n) layer.grants
unfolding some_among spread
reached_there parents layer n =
    let marks = map (granted_by layer.grants) (chains_of parents) in
    or_false (is_among n (places_of marks)) ∙ among n marks ∙ mapped_at (granted_by layer.grants) (chains_of parents) n [] false refl

lets_spread : (parents : List ℕ) (layer : Granting) (n : ℕ) → lets (single n) (spread parents layer) ≡ lets (region parents n) layer
unfolding lets spread
lets_spread parents layer n = ap (λ (b : Bool). not layer.handles || b) (reached_there parents layer n)

pub passes_spread : (parents : List ℕ) (layers : List Granting) (n : ℕ) → passes (map (spread parents) layers) (single n) ≡ passes layers (region parents n)
unfolding passes
passes_spread parents [] n = refl
passes_spread parents (layer ∷ layers) n = rw (lets_spread parents layer n, passes_spread parents layers n) refl

-- ---- where

pub filter_agree : {X : Type 0} (p q : X → Bool) → ((x : X) → p x ≡ q x) → (xs : List X) → filter p xs ≡ filter q xs
filter_agree p q same [] = refl
filter_agree p q same (x ∷ xs) = rw (same x, filter_agree p q same xs) refl

numbers_agree : (chain_of other : ℕ → List ℕ) (count : ℕ) (test also : List ℕ → Bool) → ((n : ℕ) → test (chain_of n) ≡ also (other n))
    → numbers_of chain_of count test ≡ numbers_of other count also
unfolding numbers_of
numbers_agree chain_of other count test also same =
    filter_agree (λ n. test (chain_of n)) (λ n. also (other n)) same (range_with_len 0 count)

with_agree : (too : Bool) (parents : List ℕ) (one other : List Granting) (n : ℕ)
    → passes_with too (map (spread parents) one) (map (spread parents) other) (single n) ≡ passes_with too one other (region parents n)
unfolding passes_with
with_agree too parents one other n = rw (passes_spread parents one n, passes_spread parents other n) refl

numbers_spread : (too : Bool) (parents : List ℕ) (count : ℕ) (one other : List Granting)
    → numbers_of single count (passes_with too (map (spread parents) one) (map (spread parents) other))
    ≡ numbers_of (region parents) count (passes_with too one other)
numbers_spread too parents count one other =
    numbers_agree single (region parents) count (passes_with too (map (spread parents) one) (map (spread parents) other)) (passes_with too one other)
    (with_agree too parents one other)

told_spread : (parents : List ℕ) (count : ℕ) (old new : List Granting) (found : Passing)
    → TellsPassing single count (map (spread parents) old) (map (spread parents) new) found → TellsPassing (region parents) count old new found
told_spread parents count old new found told = record {
  both = told.both ∙ numbers_spread true parents count old new;
  new = told.new ∙ numbers_spread false parents count new old;
  old = told.old ∙ numbers_spread false parents count old new;
}

pub told_of_regions : (parents : List ℕ) (count : ℕ) (old new spread_old spread_new : List Granting) (found : Passing) → count ≡ length parents + 1
    → spread_old ≡ map (spread parents) old → spread_new ≡ map (spread parents) new → TellsPassing single count spread_old spread_new found
    → TellsPassing (region parents) (length parents + 1) old new found
told_of_regions parents count old new spread_old spread_new found counted first second told =
    told_spread parents (length parents + 1) old new found
    (subst (λ (n : ℕ). TellsPassing single n (map (spread parents) old) (map (spread parents) new) found) counted
    (subst (λ (layers : List Granting). TellsPassing single count (map (spread parents) old) layers found) second
    (subst (λ (layers : List Granting). TellsPassing single count layers spread_new found) first told)))
