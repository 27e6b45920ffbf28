-- The rows that are made of findings are the lines of what is judged.
use Rattle.std.proofs.Common.{◌≡◌, ◌∙◌, ℕ, Bool, true, false, List, [], ◌∷◌, ◌++◌, Option, Some, None}
use Rattle.std.proofs.Common.{refl, sym, ap, ap₂, inl, inr}
use Rattle.std.specs.Prelude.{option_and_then, slice_get, unwrap_or}
use Rattle.std.proofs.lemmas.Bool.{cases_Bool}
use Rattle.json.specs.Print.{print}
use Rattle.json.specs.Token as token
use Rattle.json.specs.Token.{Token}
use Rattle.json.specs.Tree.{json_tokens}
use Rattle.ll_tree.specs.Trees.{Entry}
use Rattle.ll_trace.specs.declared.op.Op.{Op}
use Rattle.ll_trace.specs.declared.op.Record.{Record}
use Rattle.ll_semantics.specs.declared.answer.Answer.{Answer}
use Rattle.ll_semantics.specs.declared.answer.Answer.TheVariants.{Allowed, Moot, Refused}
use Rattle.ll_semantics.specs.Worlds.{judged}
use Rattle.ll_reasons.specs.Explanations as meant
use Rattle.ll_reasons.specs.Explanations.{origins_at}
use Rattle.ll_reasons.specs.Objections.{Objection}
use Rattle.ll_reasons.specs.Objections as objecting
use Rattle.ll_findings.specs.Findings.{FindingValue, Finds, answer_in, said_in}
use Rattle.ll_findings.specs.Kept.{if_said}
use Rattle.ll_explanations.specs.Explained.{is_silent}
use Rattle.ll_explanations.specs.Meanings.{AreMade, explanation_in, objection_in}
use Rattle.ll_findings.specs.TakenRecords.{AreTaken}
use Rattle.ll_explanations.specs.declared.explanation.Explanation.{Explanation}
use Rattle.ll_explanations.specs.declared.explanation.Explanation.TheVariants.{Nothing, Objections, Failure, Mootness}
use Rattle.ll_explanations.specs.declared.objection.LayerObjection.{LayerObjection}
use Rattle.ll_findings.proofs.FindingTells.{tells, tells_nothing}
use Rattle.ll_explain.specs.Words.{line_of}
use Rattle.ll_explain.proofs.SaidAsRead.{line_there, opened_there}
use Rattle.ll_json.specs.Layering.{head_of, next_tokens, objections_from, opening}
use Rattle.ll_json.specs.Parts.{named_tokens}
use Rattle.ll_json.specs.Records.{Version, answer_members, layers_json, members_at, members_of_both, members_text, members_with, why_members}
use Rattle.ll_report.specs.Printed.{printed_of}
use Rattle.ll_json.specs.Rows.{members_tokens, said_of}
use Rattle.ll_json.specs.Values.{answer_tokens, layers_tokens, plain_members}
use Rattle.ll_json.specs.Why.{objection_json}
use Rattle.ll_json.proofs.Meant.{answer_means}

-- ---- of records only lines are written, and paths that they open

module _ (tree : List Entry) (trace records : List Record) (are : AreTaken trace records) where
  made_there : (made : Option ℕ) → line_of (option_and_then (slice_get trace) made) ≡ line_of (option_and_then (slice_get records) made)
  made_there None = refl
  made_there (Some k) = line_there trace records are k

  head_there : (number : ℕ) (made : Option ℕ) → head_of trace number made ≡ head_of records number made
  unfolding head_of
  head_there number made = rw (made_there made) refl

  objection_there : (o : Objection) → objection_json trace o ≡ objection_json records o
  unfolding objection_json
  objection_there (objecting.missing rights path) = refl
  objection_there (objecting.closed rights port) = refl
  objection_there (objecting.gained object rights directory) = refl
  objection_there objecting.mounting = refl
  objection_there (objecting.kept right index) = rw (line_there trace records are index, opened_there trace records are index) refl

  opening_there : (before : ℕ) (one : LayerObjection) → opening trace before one ≡ opening records before one
  unfolding opening
  opening_there before one = rw (head_there one.layer one.made) refl

  next_there : (before : ℕ) (one : LayerObjection) → next_tokens tree trace before one ≡ next_tokens tree records before one
  unfolding next_tokens
  next_there before one =
      ap₂ (λ (opened said : List Token). opened ++ said) (opening_there before one) (ap json_tokens (objection_there (objection_in tree one.objection)))

  objections_there : (before : ℕ) (all : List LayerObjection) → objections_from tree trace before all ≡ objections_from tree records before all
  unfolding objections_from
  objections_there before [] = refl
  objections_there before (one ∷ more) = ap₂ (λ (first rest : List Token). first ++ rest) (next_there before one) (objections_there one.layer more)

  layers_there : (numbers : List ℕ) (e : Explanation) → layers_tokens tree trace numbers e ≡ layers_tokens tree records numbers e
  unfolding layers_tokens
  layers_there numbers Nothing = refl
  layers_there numbers (Objections all) = ap (λ (ts : List Token). token.begin_array ∷ (ts ++ token.end_array ∷ [])) (objections_there 0 all)
  layers_there numbers (Failure condition) = refl
  layers_there numbers (Mootness reason) = refl

  answer_there : (op : Op) (answer : Answer) (e : Explanation) → answer_tokens tree trace op answer e ≡ answer_tokens tree records op answer e
  unfolding answer_tokens
  answer_there op Allowed e = refl
  answer_there op Moot e = refl
  answer_there op (Refused error numbers) e = rw (layers_there numbers e) refl

-- ---- what a version says of a record

-- an answer whose explanation says nothing
plain : (records : List Record) (layers : List ℕ) (tree : List Entry) (op : Op) (answer : Answer) (e : Explanation) → is_silent e ≡ true
    → named_tokens (plain_members answer) ≡ named_tokens (answer_members records layers answer (explanation_in tree op e))
unfolding answer_members layers_json why_members explanation_in
plain records layers tree op Allowed Nothing silent = refl
plain records layers tree op Moot Nothing silent = refl
plain records layers tree op (Refused error numbers) Nothing silent = refl
plain records layers tree op Allowed (Mootness None) silent = refl
plain records layers tree op Moot (Mootness None) silent = refl
plain records layers tree op (Refused error numbers) (Mootness None) silent = refl
plain records layers tree op answer (Mootness (Some reason)) silent = cc
plain records layers tree op answer (Objections all) silent = cc
plain records layers tree op answer (Failure condition) silent = cc

bare : (records : List Record) (layers : List ℕ) (answer : Answer) → plain_members answer ≡ answer_members records layers answer meant.nothing
unfolding answer_members layers_json why_members
bare records layers Allowed = refl
bare records layers Moot = refl
bare records layers (Refused error numbers) = refl

module _ (tree : List Entry) (version : Version) (index : ℕ) (r : Record) (answer : Answer)
    (there : slice_get version.records index ≡ Some r) (answered : slice_get (judged tree version.abi version.records) index ≡ Some answer) where
  pub members_are : (explains : Bool) → members_at explains tree version index ≡ members_with explains tree version index r answer
  unfolding members_at
  members_are explains =
      ap (λ (found : Option Record). members_of_both explains tree version index found (slice_get (judged tree version.abi version.records) index)) there
      ∙ ap (λ (given : Option Answer). members_of_both explains tree version index (Some r) given) answered

  module _ (trace : List Record) (are : AreTaken trace version.records) (finding : FindingValue) where
    abbrev layers : List ℕ
    layers = (origins_at tree version.abi version.records index r.process.0).layers

    -- what is written of a value that may say nothing
    value_means : (op : Op) (e : Explanation) → AreMade layers e
        → members_tokens tree trace answer (if_said e (op, e)) ≡ named_tokens (answer_members version.records layers answer (explanation_in tree op e))
    value_means op e made = elim (cases_Bool (is_silent e)) [
      | inl silent ↦ rw silent (plain version.records layers tree op answer e silent)
      | inr says ↦ rw says (answer_there tree trace version.records are op answer e ∙ answer_means tree version.records layers op answer e made)
    ]

    explained : Finds true tree version.abi version.records finding
        → members_tokens tree trace answer (said_in trace finding index) ≡ named_tokens (members_with true tree version index r answer)
    explained finds =
        let told = tells tree version.abi version.records trace finding finds are index r answer there answered in
        ap (members_tokens tree trace answer) told.2 ∙ value_means told.1 told.0 told.4.made
        ∙ ap (λ (why : meant.Explanation). named_tokens (answer_members version.records layers answer why)) (told.3 ∙ told.4.means)

    members_told : (explains : Bool) → Finds explains tree version.abi version.records finding
        → members_tokens tree trace answer (said_in trace finding index) ≡ named_tokens (members_with explains tree version index r answer)
    members_told true finds = explained finds
    members_told false finds =
        ap (members_tokens tree trace answer) (tells_nothing tree version.abi version.records trace finding finds index)
        ∙ ap named_tokens (bare version.records layers answer)

    answer_is : (explains : Bool) → Finds explains tree version.abi version.records finding → answer_in finding index ≡ answer
    answer_is explains finds =
        ap (λ (answers : List Answer). unwrap_or (slice_get answers index) Moot) finds.answers
        ∙ ap (λ (given : Option Answer). unwrap_or given Moot) answered

    pub said_is : (explains : Bool) → Finds explains tree version.abi version.records finding
        → printed_of said_of tree trace index finding ≡ members_text (members_at explains tree version index)
    unfolding said_of
    said_is explains finds =
        ap (λ (ts : List Token). print (ts ++ token.end_object ∷ []))
        (ap (λ (given : Answer). members_tokens tree trace given (said_in trace finding index)) (answer_is explains finds)
        ∙ members_told explains finds ∙ ap named_tokens (sym (members_are explains)))
