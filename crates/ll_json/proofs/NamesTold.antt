-- The words for rights that are written one after another are those of the set.
use Rattle.std.proofs.Common.{◌≡◌, ◌∙◌, Bool, true, false, cond, List, [], ◌∷◌, ◌++◌, map, refl, ap, ℕ}
use Rattle.std.specs.Prelude.{filter}
use Rattle.std.specs.List.{flat_map}
use Rattle.json.specs.Json.{string}
use Rattle.ll_explain.specs.Words.{words_of}
use Rattle.ll_json.specs.Parts.{values_tokens}
use Rattle.ll_json.specs.Values.{word_if}

module _ {R : Type 0} (name_of : R → List ℕ) (test : R → Bool) where
  one : (b : Bool) (right : R) (rights : List R) → word_if b (name_of right) ++ values_tokens (map string (words_of name_of rights))
      ≡ values_tokens (map string (words_of name_of (cond b (right ∷ rights) rights)))
  unfolding word_if
  one true right rights = refl
  one false right rights = refl

  pub names_are : (rights : List R) → flat_map (λ right. word_if (test right) (name_of right)) rights
      ≡ values_tokens (map string (words_of name_of (filter test rights)))
  names_are [] = refl
  names_are (right ∷ rights) =
      ap (λ rest. word_if (test right) (name_of right) ++ rest) (names_are rights) ∙ one (test right) right (filter test rights)
