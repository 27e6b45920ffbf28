-- A walk along the chain of a slot leaves out no node that has the text.
use Rattle.std.proofs.Common.{◌≡◌, ℕ, ◌<◌, ◌≤◌, List, length, sym, ap, ◌∙◌, subst, arith, inl, inr, Option, Some, None, refl, true, false, ◌-◌}
use Rattle.std.specs.Prelude.{◌≢◌, ◌==◌, ◌&&◌, is_some}
use Rattle.std.specs.Option.{option_map}
use Rattle.std.specs.String.{string_bytes}
use Rattle.std.specs.declared.string.String.{String}
use Rattle.std.proofs.lemmas.Bool.{cases_lt, and_parts, false≢true}
use Rattle.std.proofs.lemmas.Bool.Decides.{Decides-eqb}
use Rattle.std.proofs.lemmas.Slice.Eq.{bytes_eq-Decides}
use Rattle.std.specs.Str.{bytes_eq}
use Rattle.ll_lines.specs.Paths.{path_of, text_of}
use Rattle.ll_lines.proofs.PathLaws.{text_of-path_of}
use Rattle.ll_tree.specs.declared.tree.Object.{Object}
use Rattle.ll_tree.specs.Chains.{text_mark, slot_in, head_in}
use Rattle.ll_tree.specs.Trees.{Entry, path_at, position_of, node_at}
use Rattle.ll_tree.specs.TreeFacts.{spelt}
use Rattle.ll_tree.specs.Kept.{IsOf, IsSound, entries_of, mark_at}
use Rattle.ll_tree.proofs.Positions.{node, spelt_is, at_position}
use Rattle.ll_tree.proofs.Keeping.{within_is}

-- each node that has the path is below the bound
abbrev pub IsOver : List Entry → List ℕ → ℕ → Type 0
IsOver tree text bound = (number : ℕ) → number < length tree → path_at tree (node number) ≡ spelt text → number < bound

module _ (value : List Entry) (text : List ℕ) (shape : is_some (path_of text) ≡ true) where
  own_text : text_of (spelt text) ≡ text
  own_text = text_of-path_of text (spelt text) (spelt_is text shape)

  mark_is : (number : ℕ) → path_at value (node number) ≡ spelt text → mark_at value number ≡ text_mark text
  unfolding mark_at
  mark_is number same = ap (λ p. text_mark (text_of p)) same ∙ ap text_mark own_text

  -- the head is over each
  pub walk_begins : {A : Type 0} (objects : List Object) (numbers : List (String A × ℕ)) (heads : List ℕ) (bound : ℕ)
      → IsSound objects numbers heads → entries_of objects ≡ value → bound ≡ head_in heads (slot_in (text_mark text)) → IsOver value text bound
  walk_begins objects numbers heads bound sound is head = λ number within same.
      let over = subst (λ (es : List Entry). number < head_in heads (slot_in (mark_at es number))) is
      (sound.first number (within_is objects value is number within)) in
      rw (head, ← mark_is number same) over

  -- and so is what comes next, where a node of the slot has another text
  pub walk_goes : (object : Object) (bound : ℕ) → 0 < bound → IsOf value (bound - 1) object → slot_in object.mark ≡ slot_in (text_mark text)
      → (object.mark ≡ text_mark text → string_bytes object.text ≢ text) → IsOver value text bound → IsOver value text object.next
  walk_goes object bound some of slots differs over = λ number within same. elim (cases_lt number (bound - 1)) [
    | inl before ↦ of.next number before (ap slot_in (mark_is number same) ∙ sym slots ∙ ap slot_in of.mark)
    | inr after ↦
        (let below = over number within same in
        let here : number ≡ bound - 1 = omega arith in
        let there : path_at value (node (bound - 1)) ≡ spelt text = subst (λ n. path_at value (node n) ≡ spelt text) here same in
        absurd (differs (of.mark ∙ mark_is (bound - 1) there) (of.text ∙ ap text_of there ∙ own_text)))
  ]

  -- at the end of the chain no node has the path
  pub walk_ends : (bound : ℕ) → bound ≤ 0 → IsOver value text bound → None ≡ node_at value (spelt text)
  unfolding node_at path_at
  walk_ends bound none over = go (position_of (spelt text) value) refl where
    go : (found : Option ℕ) → position_of (spelt text) value ≡ found → None ≡ option_map node found
    go None eq = refl
    go (Some number) eq =
        let there = at_position (spelt text) value number eq in
        absurd (let below = over number there.0 there.1 in omega arith)

-- what the test of an object says, where it has the text and where it hasn't
module _ (object : Object) (mark : ℕ) (text : List ℕ) where
  pub is_of-yes : (object.mark == mark && bytes_eq (string_bytes object.text) text) ≡ true → string_bytes object.text ≡ text
  is_of-yes is = (bytes_eq-Decides (string_bytes object.text) text).0 (and_parts (object.mark == mark) (bytes_eq (string_bytes object.text) text) is).1

  pub is_of-no : (object.mark == mark && bytes_eq (string_bytes object.text) text) ≡ false → object.mark ≡ mark → string_bytes object.text ≢ text
  is_of-no not marks = λ same.
      false≢true (sym not ∙ rw ((Decides-eqb object.mark mark).1 marks, (bytes_eq-Decides (string_bytes object.text) text).1 same) refl)
