-- The explanation of a record by its answer.
use Rattle.std.proofs.Common.{◌≡◌, ◌≢◌, ◌∙◌, ◌<◌, ℕ, true, false, List, [], ◌∷◌, Option, Some, suc, ap, arith, inl, inr, refl, subst, sym}
use Rattle.std.specs.Prelude.{◌==◌, length, option_map, slice_get}
use Rattle.std.proofs.lemmas.Bool.{cases_Bool, ne_eqb, true≢false}
use Rattle.std.proofs.lemmas.Option.{same_Some, slice_get_within}
use Rattle.ll_rights.specs.declared.abi.Abi.{Abi}
use Rattle.ll_rules.specs.declared.errno.Errno.{Errno}
use Rattle.ll_tree.specs.Trees.{Entry}
use Rattle.ll_tree.specs.declared.place.Place.{Place}
use Rattle.ll_trace.specs.declared.op.Record.{Record}
use Rattle.ll_trace.specs.declared.op.Op.{Op}
use Rattle.ll_trace.specs.declared.op.Op.TheVariants as calls
use Rattle.ll_trace.specs.Entries.{is_start}
use Rattle.ll_trace.specs.FirstPlaces.{first_place}
use Rattle.ll_semantics.specs.declared.answer.Answer.{Answer}
use Rattle.ll_semantics.specs.declared.answer.Answer.TheVariants.{Allowed, Moot, Refused}
use Rattle.ll_semantics.specs.Answers.{answer}
use Rattle.ll_semantics.specs.Worlds.{World, answer_in, judged}
use Rattle.ll_semantics.specs.CallContexts.{world_at}
use Rattle.ll_semantics.proofs.Steps.{judged-at, length-judged}
use Rattle.ll_process.specs.Cases.{CaseValue}
use Rattle.ll_explanations.specs.declared.why.Reason.{Reason}
use Rattle.ll_reasons.specs.Conditions.{condition}
use Rattle.ll_reasons.specs.Explanations.{domain_at, explained, explained_at, failure, mootness, objections, objections_to, origins_at}
use Rattle.ll_explanations.specs.Meant.{reason_in}
use Rattle.ll_reasons.specs.Reasons.{reason}
use Rattle.ll_explanations.specs.Explained.{Explains, IsExplanation, IsExplanationOf, IsFoundAt}
use Rattle.ll_explanations.specs.Meanings.{condition_in, explanation_in}
use Rattle.ll_origins.specs.declared.trail.ProcessOrigins.{ProcessOrigins}
use Rattle.ll_explanations.specs.declared.condition.Condition.{Condition}
use Rattle.ll_explanations.specs.declared.explanation.Explanation.{Explanation}
use Rattle.ll_explanations.specs.declared.explanation.Explanation.TheVariants.{Failure, Mootness}

-- what starts a process is allowed
start_allowed : (tree : List Entry) (abi : Abi) (w : World) (process : ℕ) (op : Op) → is_start op ≡ true → answer_in tree abi w process op ≡ Allowed
unfolding is_start answer_in answer
start_allowed tree abi w process (calls.Start nnp admin) starts = refl
start_allowed tree abi w process (calls.Fork child) starts = refl
start_allowed tree abi w process op starts = absurd (true≢false (sym starts))

module _ (tree : List Entry) (abi : Abi) (records : List Record) (index : ℕ) where
  -- what is answered stands in the trace
  pub index_within : (a : Answer) → slice_get (judged tree abi records) index ≡ Some a → index < length records
  index_within a is = subst (λ (n : ℕ). index < n) (length-judged tree abi records) (slice_get_within (judged tree abi records) index a is)

  -- a record that isn't allowed starts nothing
  pub starts_nothing : (r : Record) (a : Answer) → slice_get records index ≡ Some r → slice_get (judged tree abi records) index ≡ Some a
      → a ≢ Allowed → is_start r.op ≡ false
  starts_nothing r a eq is not_allowed = elim (cases_Bool (is_start r.op)) [
    | inl starts ↦
        let told : answer_in tree abi (world_at tree abi records index) r.process.0 r.op ≡ a =
        same_Some _ a (sym (judged-at tree abi records index r eq) ∙ is) in
        absurd (not_allowed (sym told ∙ start_allowed tree abi (world_at tree abi records index) r.process.0 r.op starts))
    | inr goes ↦ goes
  ]

  -- what layers that refuse object to
  pub refusing : (r : Record) (error : Errno) (numbers : List ℕ) → numbers ≢ []
      → objections (objections_to tree (domain_at tree abi records index r.process.0) (origins_at tree abi records index r.process.0) r.op error numbers)
      ≡ explained_at tree abi records index r (Refused error numbers)
  unfolding explained_at explained
  refusing r error [] some = absurd (some refl)
  refusing r error (number ∷ numbers) some = refl

-- the record that is found is the one there
pub explains : (case : CaseValue) (index : ℕ) (answer : Answer) (found : Record) (e : Explanation) → slice_get case.records index ≡ Some found
    → IsExplanation case index answer found e → Explains case index answer e
explains case index answer found e read is r eq =
    subst (λ (one : Record). IsExplanation case index answer one e) (same_Some found r (sym read ∙ eq)) is

-- the place that the call there names first
pub place_there : (case : CaseValue) (index : ℕ) (tree : List Entry) (op : Op) (trail : ProcessOrigins) → IsFoundAt case index op trail
    → (spot : Place) → tree ≡ case.tree → ((r : Record) → slice_get case.records index ≡ Some r → spot ≡ first_place case.tree r.op)
    → spot ≡ first_place tree op
place_there case index tree op trail found spot same is = rw (same, found.call) (is found.r found.there)

-- what explains the record there that no layer refuses, and one that is moot
module _ (tree : List Entry) (abi : Abi) (records : List Record) (index : ℕ) (found r : Record) (read : slice_get records index ≡ Some found)
    (eq : slice_get records index ≡ Some r) where
  same_record : found ≡ r
  same_record = same_Some found r (sym read ∙ eq)

  pub fails : (error : Errno) (told : Condition)
      → condition_in found.op told ≡ condition abi records (origins_at tree abi records index found.process.0) found.op error
      → IsExplanationOf tree abi records index (Refused error []) r (Failure told)
  unfolding explained_at explained explanation_in
  fails error told is =
      subst (λ (one : Record). IsExplanationOf tree abi records index (Refused error []) one (Failure told)) same_record
      (record { means = ap failure is; made = tt; inside = tt })

  pub is_moot : (told : Option Reason) → option_map (reason_in found.op) told ≡ reason tree (origins_at tree abi records index found.process.0) found.op
      → IsExplanationOf tree abi records index Moot r (Mootness told)
  unfolding explained_at explained explanation_in
  is_moot told is =
      subst (λ (one : Record). IsExplanationOf tree abi records index Moot one (Mootness told)) same_record
      (record { means = ap mootness is; made = tt; inside = tt })

-- a set without layers
pub none_of : (numbers : List ℕ) → (length numbers == 0) ≡ true → numbers ≡ []
none_of [] none = refl
none_of (number ∷ numbers) none = absurd (true≢false (sym none ∙ ne_eqb (suc (length numbers)) 0 (λ is. omega (arith, is))))
