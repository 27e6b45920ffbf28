-- Texts that are compared page after page.
use Rattle.std.proofs.Common.{◌≡◌, ◌∙◌, ℕ, ◌+◌, ◌<◌, ◌≤◌, true, List, [], ◌++◌, length, take, drop, sym, ap, ap₂, arith, inl, inr}
use Rattle.std.proofs.Common.{take-append-drop}
use Rattle.std.specs.Prelude.{bytes_eq}
use Rattle.std.proofs.Math.Nat.{le_of_lt}
use Rattle.std.proofs.Math.Seq.{take-add}
use Rattle.std.proofs.lemmas.Bool.{cases_lt}
use Rattle.std.proofs.lemmas.List.{length-take-le, take_all}
use Rattle.std.proofs.lemmas.Slice.Eq.{bytes_eq-Decides}
use Rattle.ll_explain.specs.Buffers.{Buffered, adding, from_byte, most_counted}
use Rattle.ll_explain.proofs.Buffering.{added, window}

-- what a page holds of a text that is added to it without its first bytes
pub put : (room skip : ℕ) (text : List ℕ) (empty after : Buffered) → skip ≤ most_counted → empty ≡ from_byte skip room → after ≡ adding empty text
    → (after.held ≡ take room (drop skip text)) × (after.room ≡ room)
put room skip text empty after low is_empty is =
    let found : after ≡ adding (from_byte skip room) text = is ∙ ap (λ b. adding b text) is_empty in (
      ap (λ (b : Buffered). b.held) found ∙ window room skip text low,
      ap (λ (b : Buffered). b.room) (found ∙ added room skip 0 [] text (omega arith) (omega arith) low),
    )

-- what is read of a page of this room
pub holds : (room wide skip : ℕ) (text page held : List ℕ) → page ≡ held → held ≡ take wide (drop skip text) → wide ≡ room
    → page ≡ take room (drop skip text)
holds room wide skip text page held read written same = read ∙ written ∙ ap (λ n. take n (drop skip text)) same

module _ (room skip : ℕ) (a b page other : List ℕ) (here : page ≡ take room (drop skip a)) (there : other ≡ take room (drop skip b)) where
  pub same_page : bytes_eq page other ≡ true → take room (drop skip a) ≡ take room (drop skip b)
  same_page same = sym here ∙ (bytes_eq-Decides page other).0 same ∙ there

  -- the same page behind the same bytes
  pub more_same : take skip a ≡ take skip b → bytes_eq page other ≡ true → take (skip + room) a ≡ take (skip + room) b
  more_same so_far same =
      take-add skip room a ∙ ap₂ (λ x y. x ++ y) so_far (same_page same) ∙ sym (take-add skip room b)

  -- a page that isn't full is the last
  last_page : (text : List ℕ) → length (take room (drop skip text)) < room → take room (drop skip text) ≡ drop skip text
  last_page text short = elim (cases_lt room (length (drop skip text))) [
    | inl longer ↦ absurd (omega (arith, short, length-take-le room (drop skip text) (le_of_lt longer)))
    | inr fits ↦ take_all room (drop skip text) fits
  ]

  pub all_same : take skip a ≡ take skip b → bytes_eq page other ≡ true → length page < room → true ≡ bytes_eq a b
  all_same so_far same short =
      let pages = same_page same in
      let rest : drop skip a ≡ drop skip b =
      sym (last_page a (omega (arith, short, ap length here))) ∙ pages ∙ last_page b (omega (arith, short, ap length here, ap length pages)) in
      sym ((bytes_eq-Decides a b).1
      (sym (take-append-drop skip a) ∙ ap₂ (λ x y. x ++ y) so_far rest ∙ take-append-drop skip b))
