-- Lists that are kept as changes to a base, and findings.
use Rattle.std.proofs.Common.{◌≡◌, ◌∙◌, ◌<◌, ◌≤◌, ◌+◌, ℕ, zero, suc, List, [], ◌∷◌, length, get_or, Option, Some, None, refl, sym, ap, ap₂, arith}
use Rattle.std.specs.Prelude.{option_map, slice_get, unwrap_or}
use Rattle.std.specs.Option.{option_and_then}
use Rattle.std.proofs.lemmas.Option.{slice_get_past, slice_get_read}
use Rattle.ll_findings.specs.Findings.{FindingValue, kept_at, with_changes}
use Rattle.ll_findings.specs.Overlays.{change_at, overlay, overlay_from, where_in}

-- what stands at a position, where the first element stands at an index
overlaid_from : {A : Type 0} (changes base : List A) (indices : List ℕ) (start position : ℕ)
    → slice_get (overlay_from start base indices changes) position
    ≡ option_map (λ stays. unwrap_or (change_at (start + position) indices changes) stays) (slice_get base position)
unfolding overlay_from
overlaid_from changes [] indices start position = refl
overlaid_from changes (stays ∷ base) indices start zero =
    let there : start ≡ start + 0 = omega arith in ap (λ n. Some (unwrap_or (change_at n indices changes) stays)) there
overlaid_from changes (stays ∷ base) indices start (suc position) =
    let there : suc start + position ≡ start + suc position = omega arith in
    overlaid_from changes base indices (suc start) position
    ∙ ap (λ n. option_map (λ stays. unwrap_or (change_at n indices changes) stays) (slice_get base position)) there

module _ {A : Type 0} (changes base : List A) (indices : List ℕ) (index : ℕ) where
  pub overlaid_at : slice_get (overlay base indices changes) index
      ≡ option_map (λ stays. unwrap_or (change_at index indices changes) stays) (slice_get base index)
  overlaid_at =
      let here : 0 + index ≡ index = omega arith in
      overlaid_from changes base indices 0 index
      ∙ ap (λ n. option_map (λ stays. unwrap_or (change_at n indices changes) stays) (slice_get base index)) here

  pub nothing_there : length base ≤ index → None ≡ slice_get (overlay base indices changes) index
  nothing_there past =
      sym (overlaid_at ∙ ap (option_map (λ stays. unwrap_or (change_at index indices changes) stays)) (slice_get_past base index past))

  -- where there is no change the base's element stands
  pub as_in_base : where_in index indices ≡ None → slice_get (overlay base indices changes) index ≡ slice_get base index
  as_in_base none =
      overlaid_at
      ∙ ap (λ o. option_map (λ stays. unwrap_or (option_and_then (slice_get changes) o) stays) (slice_get base index)) none
      ∙ same_option (slice_get base index)
    where
      same_option : (o : Option A) → option_map (λ stays. stays) o ≡ o
      same_option None = refl
      same_option (Some stays) = refl

  there : (stays : A) (change : Option A) → index < length base → stays ≡ get_or base index stays → change ≡ change_at index indices changes
      → Some (unwrap_or change stays) ≡ slice_get (overlay base indices changes) index
  there stays change within is changed =
      ap (λ o. Some (unwrap_or o stays)) changed
      ∙ sym (overlaid_at ∙ ap (option_map (λ stays. unwrap_or (change_at index indices changes) stays))
      (slice_get_read base (length base) index stays refl within is))

  pub stays_there : (stays : A) → index < length base → stays ≡ get_or base index stays → None ≡ change_at index indices changes
      → Some stays ≡ slice_get (overlay base indices changes) index
  stays_there stays = there stays None

  pub change_there : (stays change : A) → index < length base → stays ≡ get_or base index stays
      → Some change ≡ change_at index indices changes → Some change ≡ slice_get (overlay base indices changes) index
  change_there stays change = there stays (Some change)

-- as many as in the base
as_many_from : {A : Type 0} (changes base : List A) (indices : List ℕ) (start : ℕ) → length (overlay_from start base indices changes) ≡ length base
unfolding overlay_from
as_many_from changes [] indices start = refl
as_many_from changes (stays ∷ base) indices start = ap suc (as_many_from changes base indices (suc start))

pub as_many : {A : Type 0} (changes base : List A) (indices : List ℕ) → length (overlay base indices changes) ≡ length base
as_many changes base indices = as_many_from changes base indices 0

pub as_many_overlaid : {A : Type 0} (changes base : List A) (indices : List ℕ) (count : ℕ) → count ≡ length base
    → count ≡ length (overlay base indices changes)
as_many_overlaid changes base indices count is = is ∙ sym (as_many changes base indices)

-- without changes all stays
unchanged : {A : Type 0} (changes base : List A) (start : ℕ) → overlay_from start base [] changes ≡ base
unfolding overlay_from where_in
unchanged changes [] start = refl
unchanged changes (stays ∷ base) start = ap (λ more. stays ∷ more) (unchanged changes base (suc start))

pub all_stays : (base found changes : FindingValue) (indices : List ℕ) → base ≡ found → indices ≡ [] → with_changes base indices changes ≡ found
all_stays base found changes indices is none =
    ap (λ indices. with_changes base indices changes) none
    ∙ ap₂ (λ answers explanations. record { answers = answers; explanations = explanations }) (unchanged changes.answers base.answers 0)
    (unchanged changes.explanations base.explanations 0) ∙ is

-- nothing is kept over a base that keeps nothing
pub none_kept : (base changes : FindingValue) (indices : List ℕ) (index : ℕ) → base.explanations ≡ [] → kept_at (with_changes base indices changes) index ≡ None
unfolding overlay_from
none_kept base changes indices index none =
    ap (λ all. unwrap_or (slice_get (overlay all indices changes.explanations) index) None) none
