-- What a finding says of a record is what the definitions say.
use Rattle.std.proofs.Common.{◌≡◌, ◌∙◌, ℕ, Bool, true, false, cond, List, [], length}
use Rattle.std.proofs.Common.{Option, Some, None, refl, sym, ap, ap₂, inl, inr, arith}
use Rattle.std.specs.Prelude.{slice_get}
use Rattle.std.proofs.lemmas.List.Elements.{length_all_zip}
use Rattle.std.proofs.lemmas.Option.{none-some, slice_get_cases}
use Rattle.ll_rights.specs.declared.abi.Abi.{Abi}
use Rattle.ll_tree.specs.Trees.{Entry}
use Rattle.ll_trace.specs.declared.op.Op.{Op}
use Rattle.ll_trace.specs.declared.op.Record.{Record}
use Rattle.ll_semantics.specs.declared.answer.Answer.{Answer}
use Rattle.ll_semantics.specs.Worlds.{judged}
use Rattle.ll_semantics.proofs.Steps.{length-judged}
use Rattle.ll_reasons.specs.Explanations.{origins_at}
use Rattle.ll_explanations.specs.Explained.{IsExplanationOf}
use Rattle.ll_findings.specs.Findings.{FindingValue, Finds, Tells, kept_at, said_by, said_in}
use Rattle.ll_findings.specs.Kept.{if_said}
use Rattle.ll_explanations.specs.Meanings.{AreMade, explanation_in}
use Rattle.ll_findings.specs.TakenRecords.{AreTaken, IsTaken}
use Rattle.ll_explanations.specs.declared.explanation.Explanation.{Explanation}
use Rattle.ll_explanations.specs.declared.explanation.Explanation.TheVariants.{Nothing, Objections, Failure, Mootness}
use Rattle.ll_findings.proofs.FindingTells.{tells, tells_nothing}
use Rattle.ll_explain.specs.Explained.{text_at, text_of_both}
use Rattle.ll_explain.specs.Told.{said_text, text_told, value_text}
use Rattle.ll_explain.specs.Words.{explanation_text}
use Rattle.ll_explain.proofs.LinesSaid.{all_said}
use Rattle.ll_explain.proofs.SaidAsRead.{text_read}

-- ---- the text of a value is that of what it means

pub value_is : (tree : List Entry) (records : List Record) (layers : List ℕ) (op : Op) (e : Explanation) → AreMade layers e
    → value_text tree records op e ≡ explanation_text records layers (explanation_in tree op e)
unfolding value_text explanation_text explanation_in
value_is tree records layers op Nothing made = refl
value_is tree records layers op (Objections all) made = all_said tree records layers all made
value_is tree records layers op (Failure condition) made = refl
value_is tree records layers op (Mootness reason) made = refl

said_is : (tree : List Entry) (records : List Record) (op : Op) (e : Explanation) → said_text tree records (if_said e (op, e)) ≡ value_text tree records op e
unfolding value_text
said_is tree records op Nothing = refl
said_is tree records op (Objections all) = refl
said_is tree records op (Failure condition) = refl
said_is tree records op (Mootness None) = refl
said_is tree records op (Mootness (Some reason)) = refl

-- ---- what a finding says

module _ (tree : List Entry) (abi : Abi) (records trace : List Record) (finding : FindingValue) (are : AreTaken trace records) where
  told_is : (index : ℕ) (r : Record) (answer : Answer) → slice_get records index ≡ Some r → slice_get (judged tree abi records) index ≡ Some answer
      → Tells tree abi records index answer r (said_in trace finding index) → text_told tree trace finding index ≡ text_at tree abi records index
  unfolding text_at
  told_is index r answer read answered tells =
      let layers = (origins_at tree abi records index r.process.0).layers in
      let e : Explanation = tells.0 in
      let op : Op = tells.1 in
      let is : IsExplanationOf tree abi records index answer r e = tells.4 in
      ap (said_text tree trace) tells.2 ∙ said_is tree trace op e ∙ value_is tree trace layers op e is.made
      ∙ text_read trace records are layers (explanation_in tree op e)
      ∙ ap (explanation_text records layers) (tells.3 ∙ is.means)
      ∙ sym (ap₂ (text_of_both tree abi records index) read answered)

  none_there : (index : ℕ) → length records ≡ length trace → slice_get records index ≡ None → slice_get trace index ≡ None
  none_there index many none = elim ((slice_get_cases trace index).1) [
    | inl found ↦
        elim ((slice_get_cases records index).1) [
          | inl there ↦ absurd (none-some there.0 (sym none ∙ there.2))
          | inr past ↦ absurd (omega (arith, found.1, past.0, many))
        ]
    | inr past ↦ past.1
  ]

  silent_there : (index : ℕ) → slice_get records index ≡ None → text_told tree trace finding index ≡ text_at tree abi records index
  unfolding text_at
  silent_there index none =
      ap (λ (o : Option Record). said_text tree trace (said_by o (kept_at finding index)))
      (none_there index (sym (length_all_zip IsTaken trace records are)) none)
      ∙ sym (ap (λ (o : Option Record). text_of_both tree abi records index o (slice_get (judged tree abi records) index)) none)

  said_there : Finds true tree abi records finding → (index : ℕ) → text_told tree trace finding index ≡ text_at tree abi records index
  said_there finds index = elim ((slice_get_cases records index).1) [
    | inl found ↦
        elim ((slice_get_cases (judged tree abi records) index).1) [
          | inl answered ↦
              told_is index found.0 answered.0 found.2 answered.2 (tells tree abi records trace finding finds are index found.0 answered.0 found.2 answered.2)
          | inr past ↦ let counts = length-judged tree abi records in absurd (omega (arith, found.1, past.0, counts))
        ]
    | inr past ↦ silent_there index past.1
  ]

pub said_as_judged : (explains : Bool) (tree : List Entry) (abi : Abi) (records trace : List Record) (finding : FindingValue)
    → Finds explains tree abi records finding → AreTaken trace records → (index : ℕ)
    → text_told tree trace finding index ≡ cond explains (text_at tree abi records index) []
said_as_judged true tree abi records trace finding finds are index = said_there tree abi records trace finding are finds index
said_as_judged false tree abi records trace finding finds are index = ap (said_text tree trace) (tells_nothing tree abi records trace finding finds index)
