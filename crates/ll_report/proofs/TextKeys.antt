-- Texts as keys, by their bytes: what a map with one key more finds.
use Rattle.std.proofs.Common.{◌≡◌, ◌∙◌, ℕ, true, false, List, Vec, sym}
use Rattle.std.specs.Prelude.{Option, Some, bytes_eq}
use Rattle.std.specs.BTreeMap.{BTreeMap, UpdatesBy, get_by}
use Rattle.std.specs.Cmp.Lexicographic.{slice_cmp, nat_list_cmp_total, nat_list_eq_equiv}
use Rattle.std.specs.Cmp.{eq_by_cmp_equiv}
use Rattle.std.specs.Map.{KeepsOthers}
use Rattle.std.specs.Ordering.{is_eq, nat_cmp}
use Rattle.std.proofs.lemmas.Map.Text.{is_eq-slice_cmp}

apart : (one other key : List ℕ) → bytes_eq one other ≡ false → is_eq (slice_cmp nat_cmp one key) ≡ true → is_eq (slice_cmp nat_cmp other key) ≡ false
apart one other key differ same =
    is_eq-slice_cmp other key ∙ nat_list_eq_equiv.symm other key ∙ sym (nat_list_eq_equiv.congr one key other (sym (is_eq-slice_cmp one key) ∙ same)) ∙ differ

module _ {X Z : Type 0} where
  -- what a map has at a text
  abbrev pub at_text : BTreeMap (Vec ℕ Z) X → List ℕ → Option X
  at_text m text = get_by (λ key. slice_cmp nat_cmp text key.items) m

  others_kept : (one : List ℕ) (old new : BTreeMap (Vec ℕ Z) X) (w : Option X)
      → UpdatesBy (λ x y. slice_cmp nat_cmp x.items y.items) (λ key. slice_cmp nat_cmp one key.items) old new w
      → (other : List ℕ) → bytes_eq one other ≡ false → at_text new other ≡ at_text old other
  unfolding KeepsOthers
  others_kept one old new w updates other differ =
      updates.3 _ (λ x y. (eq_by_cmp_equiv nat_list_cmp_total).congr other x.items y.items) (λ key. apart one other key.items differ)

  pub text_added : (one : List ℕ) (old new : BTreeMap (Vec ℕ Z) X) (w : X)
      → UpdatesBy (λ x y. slice_cmp nat_cmp x.items y.items) (λ key. slice_cmp nat_cmp one key.items) old new (Some w)
      → (at_text new one ≡ Some w) × ((other : List ℕ) → bytes_eq one other ≡ false → at_text new other ≡ at_text old other)
  text_added one old new w updates = (updates.1, others_kept one old new (Some w) updates)
