-- Gains in one directory after another.
use Rattle.std.proofs.Common.{◌≡◌, ℕ, Bool, true, false, not, ◌&&◌, cond, List, [], ◌∷◌, refl, sym, ap, ◌∙◌, subst, inl, inr}
use Rattle.std.specs.Prelude.{Option, Some, None, ◌≢◌}
use Rattle.std.specs.List.{Contains, filter}
use Rattle.std.specs.Global.{Global}
use Rattle.std.specs.Prelude.{Vec}
use Rattle.std.proofs.lemmas.Bool.{cases_Bool, and_parts, false≢true, not-true}
use Rattle.ll_policy.specs.Chains.{Granting, is_among, NothingMoreThan, Tells}
use Rattle.ll_policy.specs.Choices.{is_narrow, narrow_ones, open_file}
use Rattle.ll_policy.specs.Gains.{granting_there, KeepsGainsInto, IsGain}
use Rattle.ll_policy.specs.Granted.{root}
use Rattle.ll_policy.proofs.Exactly.{among-contains, contains-among, holds}

kept_first : {X : Type 0} (p : X → Bool) (x : X) (xs : List X) → p x ≡ true → filter p (x ∷ xs) ≡ x ∷ filter p xs
kept_first p x xs is = ap (λ (b : Bool). cond b (x ∷ filter p xs) (filter p xs)) is

left_first : {X : Type 0} (p : X → Bool) (x : X) (xs : List X) → p x ≡ false → filter p (x ∷ xs) ≡ filter p xs
left_first p x xs is = ap (λ (b : Bool). cond b (x ∷ filter p xs) (filter p xs)) is

filter_twice : {X : Type 0} (p q : X → Bool) (xs : List X) → filter p (filter q xs) ≡ filter q (filter p xs)
filter_twice p q [] = refl
filter_twice {X = X} p q (x ∷ xs) =
    let rest = filter_twice p q xs in
    elim (cases_Bool (p x)) [
      | inl one ↦ elim (cases_Bool (q x)) [
        | inl other ↦ ap (filter p) (kept_first q x xs other) ∙ kept_first p x (filter q xs) one ∙ ap (λ (ys : List X). x ∷ ys) rest
            ∙ sym (ap (filter q) (kept_first p x xs one) ∙ kept_first q x (filter p xs) other)
        | inr none ↦ ap (filter p) (left_first q x xs none) ∙ rest ∙ sym (ap (filter q) (kept_first p x xs one) ∙ left_first q x (filter p xs) none)
      ]
      | inr none ↦ elim (cases_Bool (q x)) [
        | inl other ↦ ap (filter p) (kept_first q x xs other) ∙ left_first p x (filter q xs) none ∙ rest ∙ sym (ap (filter q) (left_first p x xs none))
        | inr neither ↦ ap (filter p) (left_first q x xs neither) ∙ rest ∙ sym (ap (filter q) (left_first p x xs none))
      ]
    ]

-- the narrow ones of those that grant on a directory leave no file open
pub closed_there : (is_file : ℕ → Bool) (old : Granting) (new narrow found : List Granting) (directory : ℕ) (file : Option ℕ)
    → narrow ≡ narrow_ones is_file old new → found ≡ granting_there directory narrow → file ≡ open_file is_file old found
    → (found ≢ []) × (file ≡ None) → NothingMoreThan is_file root old (granting_there directory new)
unfolding narrow_ones granting_there
closed_there is_file old new narrow found directory file is_narrow_list is_there is_file_found closed =
    let there : found ≡ narrow_ones is_file old (granting_there directory new) =
    is_there ∙ ap (granting_there directory) is_narrow_list
    ∙ filter_twice (λ (layer : Granting). is_among directory layer.grants) (is_narrow is_file old) new in
    holds is_file root old (granting_there directory new) (λ none. closed.0 (there ∙ none))
    (ap (open_file is_file old) (sym there) ∙ sym is_file_found ∙ closed.1)

-- where a directory isn't asked about, nothing is to be kept
pub not_asked : (is_file : ℕ → Bool) (old : Granting) (new : List Granting) (directory : ℕ)
    → (is_among directory old.grants && not (is_file directory)) ≡ false → KeepsGainsInto is_file new old directory
not_asked is_file old new directory isnt granted is =
    absurd (false≢true (sym isnt ∙ both (is_among directory old.grants) (is_file directory) (contains-among directory old.grants granted) is))
  where
    both : (a b : Bool) → a ≡ true → b ≡ false → (a && not b) ≡ true
    both true false first second = refl
    both true true first second = sym second
    both false b first second = absurd (false≢true first)

pub asked : (is_file : ℕ → Bool) (old : Granting) (directory : ℕ) → (is_among directory old.grants && not (is_file directory)) ≡ true
    → Contains old.grants directory × (is_file directory ≡ false)
asked is_file old directory is =
    let parts = and_parts (is_among directory old.grants) (not (is_file directory)) is in
    (among-contains directory old.grants parts.0, not-true (is_file directory) parts.1)

pub is_gain : (is_file : ℕ → Bool) (new : List Granting) (old : Granting) (directory : ℕ) (found : Option (Vec ℕ Global)) (chain : Vec ℕ Global)
    → Contains old.grants directory × (is_file directory ≡ false) → Tells is_file root (granting_there directory new) old found → found ≡ Some chain
    → IsGain is_file new old (record { directory = directory; chain = chain })
is_gain is_file new old directory found chain asked_about tells is = record {
  granted = asked_about.0;
  directory = asked_about.1;
  excess = subst (λ (some : Option (Vec ℕ Global)). Tells is_file root (granting_there directory new) old some) is tells;
}
