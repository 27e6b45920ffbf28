-- Nothing is found exactly if new layers let nothing more pass, with each right.
use Rattle.std.proofs.Common.{◌≡◌, ℕ, Bool, true, List, [], ◌∷◌, map, refl, get_or, Global, Vec}
use Rattle.std.specs.Prelude.{◌↔◌, All, Option, Some, None, MatchOption}
use Rattle.std.specs.List.{AllZip, Contains, list_all}
use Rattle.std.specs.Option.{is_none}
use Rattle.std.proofs.lemmas.Bool.{and_parts, and_from, false≢true}
use Rattle.std.proofs.lemmas.List.Elements.{All-contains, All-cons, All-head, All-tail, All-nil}
use Rattle.ll_rights.specs.Rights as files
use Rattle.ll_rules.specs.Layers.{RulesOn}
use Rattle.ll_policy.specs.declared.gaining.Gain.{Gain}
use Rattle.ll_policy.specs.Chains.{Granting, IsExcess, NothingMoreThan, Tells}
use Rattle.ll_policy.specs.Found.{OfLayers, is_nothing}
use Rattle.ll_policy.specs.Gains.{IsGain, KeepsGains, AllKeepGains, TellsGain, granting_there}
use Rattle.ll_policy.specs.Granted.{granting, root, NothingMoreOnObjects}
use Rattle.ll_policy.proofs.Everywhere.{each_there}
use Rattle.ll_policy.proofs.LawLemmas.{by_layers, excess_is_more}

-- what a test says of each of one list, it says of all of them where a fact holds of each of the other
all_by : {A B : Type 0} (S : A → B → Type 0) (p : B → Bool) (Q : A → Type 0) (xs : List A) (ys : List B)
    → ((x : A) (y : B) → S x y → (p y ≡ true) ↔ Q x) → AllZip S xs ys → (list_all p ys ≡ true) ↔ All Q xs
all_by S p Q [] [] one each = (λ all. All-nil Q, λ all. refl)
all_by S p Q [] (y ∷ ys) one each = absurd each
all_by S p Q (x ∷ xs) [] one each = absurd each
all_by S p Q (x ∷ xs) (y ∷ ys) one each =
    let first = one x y each.0 in
    let rest = all_by S p Q xs ys one each.1 in (
      λ all. let parts = and_parts (p y) (list_all p ys) all in All-cons Q x xs (first.0 parts.0) (rest.0 parts.1),
      λ all. and_from (p y) (list_all p ys) (first.1 (All-head Q x xs all)) (rest.1 (All-tail Q x xs all)),
    )

-- nothing or what shows that a fact fails
none_or : {A X : Type 0} (P : A → Type 0) (bad : A → X → Type 0) → ((x : A) (found : X) → bad x found → P x → ⊥)
    → (x : A) (found : Option X) → MatchOption found (P x) (bad x) → (is_none found ≡ true) ↔ P x
none_or P bad refuted x None holds = (λ none. holds, λ is. refl)
none_or P bad refuted x (Some found) shows = (λ some. absurd (false≢true some), λ is. absurd (refuted x found shows is))

module _ (is_file : ℕ → Bool) (always : List ℕ) (new : List Granting) where
  chains : (old : List Granting) (found : List (Option (Vec ℕ Global))) → AllZip (Tells is_file always new) old found
      → (list_all is_none found ≡ true) ↔ All (λ layer. NothingMoreThan is_file always layer new) old
  chains old found each =
      all_by (Tells is_file always new) is_none (λ (layer : Granting). NothingMoreThan is_file always layer new) old found
      (none_or (λ (layer : Granting). NothingMoreThan is_file always layer new)
      (λ (layer : Granting) (chain : Vec ℕ Global). IsExcess is_file always layer new chain.items)
      (λ layer chain. excess_is_more is_file always layer new chain.items)) each

  gains : (old : List Granting) (found : List (Option Gain)) → AllZip (TellsGain is_file new) old found
      → (list_all is_none found ≡ true) ↔ All (KeepsGains is_file new) old
  gains old found each =
      all_by (TellsGain is_file new) is_none (KeepsGains is_file new) old found
      (none_or (KeepsGains is_file new) (λ (layer : Granting) (gain : Gain). IsGain is_file new layer gain)
      (λ layer gain is keeps. excess_is_more is_file root layer (granting_there gain.directory new) gain.chain.items is.excess
      (keeps gain.directory is.granted is.directory))) each

both_ways : {P Q R : Type 0} → P ↔ Q → Q ↔ R → P ↔ R
both_ways first second = (λ p. second.0 (first.0 p), λ r. first.1 (second.1 r))

back : {P Q : Type 0} → P ↔ Q → Q ↔ P
back both = (both.1, both.0)

-- a fact holds of each right where it holds of all in the table
of_all : {R : Type 0} (Q : R → Type 0) (rights : List R) → ((right : R) → Contains rights right) → All Q rights ↔ ((right : R) → Q right)
of_all Q rights there_is = (λ each right. All-contains Q rights right each (there_is right), λ each k d within. each (get_or rights k d))

pub nothing_on_objects : (is_file : ℕ → Bool) (old new : List (RulesOn ℕ)) (found : List (Vec (Option (Vec ℕ Global)) Global))
    → AllZip (OfLayers (Tells is_file root) old new) files.all_rights found → (is_nothing found ≡ true) ↔ NothingMoreOnObjects is_file old new
nothing_on_objects is_file old new found each =
    both_ways
    (all_by (OfLayers (Tells is_file root) old new) (λ (layers : Vec (Option (Vec ℕ Global)) Global). list_all is_none layers.items)
    (λ right. All (λ layer. NothingMoreThan is_file root layer (map (granting right) new)) (map (granting right) old)) files.all_rights found
    (λ right layers tells. chains is_file root (map (granting right) new) (map (granting right) old) layers.items tells) each)
    (both_ways
    (of_all (λ right. All (λ layer. NothingMoreThan is_file root layer (map (granting right) new)) (map (granting right) old)) files.all_rights each_there) (
      λ all right. (by_layers is_file root (map (granting right) old) (map (granting right) new)).1 (all right),
      λ all right. (by_layers is_file root (map (granting right) old) (map (granting right) new)).0 (all right),
    ))

pub nothing_gained : (is_file : ℕ → Bool) (old new : List (RulesOn ℕ)) (found : List (Vec (Option Gain) Global))
    → AllZip (OfLayers (TellsGain is_file) old new) files.all_rights found → (is_nothing found ≡ true) ↔ AllKeepGains is_file old new
nothing_gained is_file old new found each =
    both_ways
    (all_by (OfLayers (TellsGain is_file) old new) (λ (layers : Vec (Option Gain) Global). list_all is_none layers.items)
    (λ right. All (KeepsGains is_file (map (granting right) new)) (map (granting right) old)) files.all_rights found
    (λ right layers tells. gains is_file root (map (granting right) new) (map (granting right) old) layers.items tells) each)
    (of_all (λ right. All (KeepsGains is_file (map (granting right) new)) (map (granting right) old)) files.all_rights each_there)
