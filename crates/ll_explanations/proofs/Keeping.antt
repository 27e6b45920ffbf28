-- What layers object to under which a right was missing when a file was opened.
use Rattle.std.proofs.Common.{◌≡◌, ◌∙◌, ℕ, suc, ◌+◌, Bool, true, false, List, [], ◌∷◌, ◌++◌, Some, length, map, refl, sym, ap, subst, arith}
use Rattle.std.specs.Prelude.{◌==◌, slice_get, ◌-◌}
use Rattle.std.proofs.lemmas.Bool.{eqb-true}
use Rattle.std.proofs.lemmas.List.{append-nil, map-append}
use Rattle.ll_rights.specs.Rights as files
use Rattle.ll_rules.specs.declared.domain.TheConstants.{MOST_LAYERS}
use Rattle.ll_rules.specs.LayerNumbers.{is_among, passing_upto}
use Rattle.ll_reasons.specs.Explanations.{kept_by}
use Rattle.ll_reasons.specs.Objections.{Objection, kept}
use Rattle.ll_tree.specs.Trees.{Entry}
use Rattle.ll_explanations.specs.InTree.{IsObjectionIn}
use Rattle.ll_explanations.specs.Meanings.{objection_in}
use Rattle.ll_explanations.specs.declared.objection.LayerObjection.{LayerObjection}
use Rattle.ll_explanations.proofs.Adding.{AreUpto, adds_as, adds_one, layer_more}

-- a number is among these
unfoldable pub among : List ℕ → ℕ → Bool
among numbers number = is_among number numbers

module _ (right : files.FsRight) (opened : ℕ) where
  abbrev entry : ℕ → ℕ × List Objection
  entry number = (number, kept right opened ∷ [])

  -- what the layers up to a number object to that pass a test
  unfoldable pub kept_upto : (ℕ → Bool) → ℕ → List (ℕ × List Objection)
  kept_upto test bound = map entry (passing_upto test bound)

  pub kept_with : (test : ℕ → Bool) (index : ℕ) → test (index + 1) ≡ true → kept_upto test index ++ entry (index + 1) ∷ [] ≡ kept_upto test (index + 1)
  unfolding passing_upto kept_upto
  kept_with test index is =
      let next : index + 1 ≡ suc index = omega arith in
      let passes : test (suc index) ≡ true = ap test (sym next) ∙ is in
      ap (λ n. kept_upto test index ++ entry n ∷ []) next ∙ sym (map-append entry (passing_upto test index) (suc index ∷ []))
      ∙ rw passes refl ∙ ap (kept_upto test) (sym next)

  pub kept_without : (test : ℕ → Bool) (index : ℕ) → test (index + 1) ≡ false → kept_upto test index ≡ kept_upto test (index + 1)
  unfolding passing_upto kept_upto
  kept_without test index is =
      let next : index + 1 ≡ suc index = omega arith in
      let fails : test (suc index) ≡ false = ap test (sym next) ∙ is in
      ap (map entry) (sym (append-nil (passing_upto test index))) ∙ rw fails refl ∙ ap (kept_upto test) (sym next)

  pub kept_all : (numbers : List ℕ) (test : ℕ → Bool) (index : ℕ) → index ≡ MOST_LAYERS → passing_upto test MOST_LAYERS ≡ numbers
      → kept_upto test index ≡ kept_by right numbers (Some opened)
  unfolding kept_upto
  kept_all numbers test index last whole = ap (kept_upto test) last ∙ ap (map entry) whole

  pub kept_none : (numbers : List ℕ) → (length numbers == 0) ≡ true → [] ≡ kept_by right numbers (Some opened)
  kept_none [] is = refl
  kept_none (number ∷ numbers) is = let none : suc (length numbers) ≡ 0 = eqb-true (suc (length numbers)) 0 is in absurd (omega (arith, none))

  pub kept_yet : (test : ℕ → Bool) → [] ≡ kept_upto test 0
  unfolding kept_upto passing_upto
  kept_yet test = refl

  -- what one layer more objects to
  pub kept_more : (tree : List Entry) (layers : List ℕ) (test : ℕ → Bool) (index : ℕ) (old new : List LayerObjection) (one : LayerObjection) →
      test (index + 1) ≡ true → AreUpto tree layers index old (kept_upto test index) → new ≡ old ++ one ∷ [] → one.layer ≡ index + 1
      → one.made ≡ slice_get layers index → IsObjectionIn tree one.objection → objection_in tree one.objection ≡ kept right opened
      → AreUpto tree layers (index + 1) new (kept_upto test (index + 1))
  kept_more tree layers test index old new one is are pushed at made inside means =
      let back : index ≡ index + 1 - 1 = omega arith in
      subst (λ (groups : List (ℕ × List Objection)). AreUpto tree layers (index + 1) new groups) (kept_with test index is)
      (layer_more tree layers index old (kept_upto test index) are new (kept right opened ∷ [])
      (adds_as tree layers (index + 1) old new (objection_in tree one.objection ∷ []) (kept right opened ∷ []) (ap (λ o. o ∷ []) means)
      (adds_one tree layers (index + 1) old new one pushed (at, made ∙ ap (slice_get layers) back, inside))))
