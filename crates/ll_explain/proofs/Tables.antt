-- A list of rights as the code has them names the same as the table that it stands for.
use Rattle.std.proofs.Common.{◌≡◌, ◌∙◌, ℕ, Bool, true, false, List, [], ◌∷◌, map, refl, ap, cond}
use Rattle.std.specs.Prelude.{filter}
use Rattle.ll_explain.specs.Words.{word_for, words_of}

module _ {D R : Type 0} (right_of : D → R) where
  kept : (b : Bool) (item : D) (items : List D) (rights : List R) → map right_of items ≡ rights
      → map right_of (cond b (item ∷ items) items) ≡ cond b (right_of item ∷ rights) rights
  kept true item items rights is = ap (λ more. right_of item ∷ more) is
  kept false item items rights is = is

  filtered : (test : R → Bool) (items : List D) → map right_of (filter (λ item. test (right_of item)) items) ≡ filter test (map right_of items)
  filtered test [] = refl
  filtered test (item ∷ items) = kept (test (right_of item)) item _ _ (filtered test items)

  named : (name_of : R → List ℕ) (items : List D) → map (λ item. name_of (right_of item)) items ≡ map name_of (map right_of items)
  named name_of [] = refl
  named name_of (item ∷ items) = ap (λ names. name_of (right_of item) ∷ names) (named name_of items)

  pub words_alike : (name_of : R → List ℕ) (all : List R) (items : List D) → map right_of items ≡ all → (test : R → Bool) →
      words_of (λ item. name_of (right_of item)) (filter (λ item. test (right_of item)) items) ≡ words_of name_of (filter test all)
  words_alike name_of all items is test =
      named (λ right. word_for (name_of right)) (filter (λ item. test (right_of item)) items)
      ∙ ap (words_of name_of) (filtered test items ∙ ap (filter test) is)
