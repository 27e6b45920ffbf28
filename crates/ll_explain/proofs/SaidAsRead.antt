-- The text of an explanation is the same by the records of the trace as by what a kernel takes them for: of records only
-- lines are said, and paths that they open.
use Rattle.std.proofs.Common.{◌≡◌, ◌∙◌, ◌++◌, ◌-◌, ℕ, zero, suc, true, List, [], ◌∷◌, map}
use Rattle.std.proofs.Common.{Option, Some, None, refl, sym, ap, ap₂, inl, inr, codes, decimal}
use Rattle.std.specs.Prelude.{option_and_then, slice_get}
use Rattle.std.specs.List.{flat_map}
use Rattle.std.proofs.lemmas.Bool.{cases_Bool, true≢false}
use Rattle.json.specs.Print.{escape}
use Rattle.ll_rights.specs.Rights.{name_of}
use Rattle.ll_trace.specs.Borrowed.{is_of_rights}
use Rattle.ll_trace.specs.declared.op.Op.{Op}
use Rattle.ll_trace.specs.declared.op.Op.TheVariants as calls
use Rattle.ll_trace.specs.declared.op.Record.{Record}
use Rattle.ll_reasons.specs.Explanations as meant
use Rattle.ll_reasons.specs.Objections as objecting
use Rattle.ll_findings.specs.TakenRecords.{AreTaken, IsTaken}
use Rattle.ll_explain.specs.Words.{explanation_text, layer_head, layer_text, line_of, objection_text, path_of_call, path_opened, word_for}
use Rattle.ll_explain.specs.Words.{joined}

nothing_opened : (op : Op) → is_of_rights op ≡ true → path_of_call op ≡ []
unfolding is_of_rights
nothing_opened (calls.OpenFile path fd mode create trunc) rights = absurd (true≢false (sym rights))
nothing_opened op rights = refl

path_read : (l r : Record) → IsTaken l r → path_of_call l.op ≡ path_of_call r.op
path_read l r taken = elim (cases_Bool (is_of_rights l.op)) [
  | inl rights ↦ nothing_opened l.op rights ∙ sym (nothing_opened r.op (taken.other rights))
  | inr none ↦ ap path_of_call (taken.same none)
]

pub line_there : (trace records : List Record) → AreTaken trace records → (k : ℕ) → line_of (slice_get trace k) ≡ line_of (slice_get records k)
line_there [] [] are k = refl
line_there [] (r ∷ rs) are k = absurd are
line_there (l ∷ ls) [] are k = absurd are
line_there (l ∷ ls) (r ∷ rs) are zero = are.0.line
line_there (l ∷ ls) (r ∷ rs) are (suc k) = line_there ls rs are.1 k

pub opened_there : (trace records : List Record) → AreTaken trace records → (k : ℕ) → path_opened (slice_get trace k) ≡ path_opened (slice_get records k)
opened_there [] [] are k = refl
opened_there [] (r ∷ rs) are k = absurd are
opened_there (l ∷ ls) [] are k = absurd are
opened_there (l ∷ ls) (r ∷ rs) are zero = path_read l r are.0
opened_there (l ∷ ls) (r ∷ rs) are (suc k) = opened_there ls rs are.1 k

module _ {X Y : Type 0} (f g : X → Y) (same : (x : X) → f x ≡ g x) where
  mapped : (xs : List X) → map f xs ≡ map g xs
  mapped [] = refl
  mapped (x ∷ xs) = ap₂ (λ y ys. y ∷ ys) (same x) (mapped xs)

flattened : {X : Type 0} (f g : X → List ℕ) → ((x : X) → f x ≡ g x) → (xs : List X) → flat_map f xs ≡ flat_map g xs
flattened f g same [] = refl
flattened f g same (x ∷ xs) = ap₂ (λ y ys. y ++ ys) (same x) (flattened f g same xs)

module _ (trace records : List Record) (are : AreTaken trace records) where
  line_made : (made : Option ℕ) → line_of (option_and_then (slice_get trace) made) ≡ line_of (option_and_then (slice_get records) made)
  line_made None = refl
  line_made (Some k) = line_there trace records are k

  objection_read : (objection : objecting.Objection) → objection_text trace objection ≡ objection_text records objection
  unfolding objection_text
  objection_read (objecting.missing rights path) = refl
  objection_read (objecting.closed rights port) = refl
  objection_read (objecting.gained object rights directory) = refl
  objection_read objecting.mounting = refl
  objection_read (objecting.kept right index) =
      ap₂ (λ (path : List ℕ) (line : ℕ). word_for (name_of right) ++ codes " on " ++ escape path ++ codes ", opened at line " ++ decimal line)
      (opened_there trace records are index) (line_there trace records are index)

  layer_read : (layers : List ℕ) (said : ℕ × List objecting.Objection) → layer_text trace layers said ≡ layer_text records layers said
  unfolding layer_text layer_head
  layer_read layers said =
      ap₂ (λ (line : ℕ) (texts : List (List ℕ)). (codes "    layer " ++ decimal said.0 ++ codes " (line " ++ decimal line ++ codes "): ")
      ++ joined (codes "; ") texts ++ codes "\n")
      (line_made (slice_get layers (said.0 - 1))) (mapped (objection_text trace) (objection_text records) objection_read said.1)

  pub text_read : (layers : List ℕ) (x : meant.Explanation) → explanation_text trace layers x ≡ explanation_text records layers x
  unfolding explanation_text
  text_read layers meant.nothing = refl
  text_read layers (meant.objections said) = flattened (layer_text trace layers) (layer_text records layers) (layer_read layers) said
  text_read layers (meant.failure condition) = refl
  text_read layers (meant.mootness reason) = refl
