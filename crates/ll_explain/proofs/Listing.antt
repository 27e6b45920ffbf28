-- Texts of the items of a list that pass a test, written one after another.
use Rattle.std.proofs.Common.{◌≡◌, ◌∙◌, ℕ, ◌+◌, ◌<◌, ◌≤◌, Bool, true, false, cond, List, [], ◌∷◌, ◌++◌, length, map, drop, get_or, refl, sym, ap}
use Rattle.std.specs.Prelude.{filter}
use Rattle.std.specs.List.{flat_map}
use Rattle.std.proofs.lemmas.List.{drop_all, drop_more}
use Rattle.ll_explain.specs.Buffers.{Buffered, adding}
use Rattle.ll_explain.specs.Words.{behind, joined}
use Rattle.ll_explain.proofs.Buffering.{adding_nothing, goes_on}

module _ {X : Type 0} (test : X → Bool) (text_of : X → List ℕ) (separator : List ℕ) where
  -- what is to be written of items, where it is the first to be written or not
  unfoldable pub left : Bool → List X → List ℕ
  left true items = joined separator (map text_of (filter test items))
  left false items = flat_map (behind separator) (map text_of (filter test items))

  passed : (first : Bool) (x : X) (items : List X) → test x ≡ true
      → left first (x ∷ items) ≡ cond first (text_of x) (behind separator (text_of x)) ++ left false items
  unfolding left joined
  passed true x items is = rw is refl
  passed false x items is = rw is refl

  failed : (first : Bool) (x : X) (items : List X) → test x ≡ false → left first (x ∷ items) ≡ left first items
  unfolding left
  failed true x items is = rw is refl
  failed false x items is = rw is refl

  next : (items : List X) (k : ℕ) (x : X) → k < length items → x ≡ get_or items k x → drop k items ≡ x ∷ drop (k + 1) items
  next items k x there is = drop_more items k x there ∙ ap (λ y. y ∷ drop (k + 1) items) (sym is)

  -- one text more is written
  pub written_with : (text after whole : Buffered) (first : Bool) (items : List X) (k : ℕ) (x : X) → k < length items → x ≡ get_or items k x → test x ≡ true →
      adding text (left first (drop k items)) ≡ whole → after ≡ adding text (cond first (text_of x) (behind separator (text_of x)))
      → adding after (left false (drop (k + 1) items)) ≡ whole
  written_with text after whole first items k x there is passes so_far written =
      let more = cond first (text_of x) (behind separator (text_of x)) in
      let rest = left false (drop (k + 1) items) in
      goes_on text after whole more rest
      (ap (adding text) (sym (ap (left first) (next items k x there is) ∙ passed first x (drop (k + 1) items) passes)) ∙ so_far) written

  -- an item fails the test
  pub written_without : (text whole : Buffered) (first : Bool) (items : List X) (k : ℕ) (x : X) → k < length items → x ≡ get_or items k x → test x ≡ false →
      adding text (left first (drop k items)) ≡ whole → adding text (left first (drop (k + 1) items)) ≡ whole
  written_without text whole first items k x there is fails so_far =
      ap (adding text) (sym (ap (left first) (next items k x there is) ∙ failed first x (drop (k + 1) items) fails)) ∙ so_far

  none_left : (first : Bool) → left first [] ≡ []
  unfolding left joined
  none_left true = refl
  none_left false = refl

  -- all is written
  pub written_all : (start text : Buffered) (first : Bool) (items : List X) (k : ℕ) → length items ≤ k
      → adding text (left first (drop k items)) ≡ adding start (left true items) →
      text ≡ adding start (joined separator (map text_of (filter test items)))
  unfolding left
  written_all start text first items k end is =
      adding_nothing text ∙ ap (adding text) (sym (ap (left first) (drop_all k items end) ∙ none_left first)) ∙ is
