-- What a finding tells of a record.
use Rattle.std.proofs.Common.{◌≡◌, ◌∙◌, ◌<◌, ℕ, Bool, true, false, cond, List, [], ◌∷◌, length, Option, Some, None, refl, sym, ap, subst, inl, inr, arith}
use Rattle.std.specs.Prelude.{slice_get, unwrap_or}
use Rattle.std.proofs.lemmas.Option.{slice_get_cases, slice_get_within}
use Rattle.ll_rights.specs.declared.abi.Abi.{Abi}
use Rattle.ll_tree.specs.Trees.{Entry}
use Rattle.ll_trace.specs.declared.op.Record.{Record}
use Rattle.ll_semantics.specs.declared.answer.Answer.{Answer}
use Rattle.ll_semantics.specs.Worlds.{judged}
use Rattle.ll_findings.specs.Findings.{FindingValue, Finds, Tells, kept_at, said_by, said_in}
use Rattle.ll_findings.specs.Kept.{if_said, kept_of}
use Rattle.ll_explanations.specs.Explained.{is_silent}
use Rattle.ll_findings.specs.TakenRecords.{AreTaken}
use Rattle.ll_explanations.specs.declared.explanation.Explanation.{Explanation}
use Rattle.ll_findings.proofs.TakenRecords.{read_there}
use Rattle.ll_findings.proofs.SamePaths.{explanation_same}

kept_is_said : (l : Record) (e : Explanation) → said_by (Some l) (kept_of e) ≡ if_said e (l.op, e)
kept_is_said l e = go (is_silent e) where
  go : (silent : Bool) → said_by (Some l) (cond silent None (Some e)) ≡ cond silent None (Some (l.op, e))
  go true = refl
  go false = refl

pub tells : (tree : List Entry) (abi : Abi) (records trace : List Record) (finding : FindingValue) → Finds true tree abi records finding
    → AreTaken trace records → (index : ℕ) (r : Record) (answer : Answer) → slice_get records index ≡ Some r
    → slice_get (judged tree abi records) index ≡ Some answer → Tells tree abi records index answer r (said_in trace finding index)
tells tree abi records trace finding finds are index r answer read answered =
    let there = read_there trace records are index r read in
    let within : index < length finding.explanations = subst (λ (n : ℕ). index < n) (sym finds.as_many) (slice_get_within records index r read) in
    elim ((slice_get_cases finding.explanations index).1) [
      | inl found ↦
          let kept = finds.each index answer found.0 answered found.2 r read in (
            kept.0,
            there.0.op,
            ap (λ (o : Option Record). said_by o (kept_at finding index)) there.1
                ∙ ap (λ (o : Option (Option Explanation)). said_by (Some there.0) (unwrap_or o None)) found.2
                ∙ ap (said_by (Some there.0)) kept.1 ∙ kept_is_said there.0 kept.0,
            explanation_same there.0.op r.op there.2.paths tree kept.0,
            kept.2,
          )
      | inr past ↦ absurd (omega (arith, past.0, within))
    ]

nothing_said : (o : Option Record) → said_by o None ≡ None
nothing_said (Some r) = refl
nothing_said None = refl

none_kept : (all : List (Option Explanation)) (index : ℕ) → length all ≡ 0 → unwrap_or (slice_get all index) None ≡ None
none_kept [] index none = refl
none_kept (one ∷ more) index none = absurd (omega (arith, none))

pub tells_nothing : (tree : List Entry) (abi : Abi) (records trace : List Record) (finding : FindingValue) → Finds false tree abi records finding
    → (index : ℕ) → said_in trace finding index ≡ None
tells_nothing tree abi records trace finding finds index =
    ap (said_by (slice_get trace index)) (none_kept finding.explanations index finds.as_many) ∙ nothing_said (slice_get trace index)
