-- The explanations that are found name nodes of the tree.
use Rattle.std.proofs.Common.{◌≡◌, ◌<◌, ℕ, Bool, true, false, cond, List, length, Option, Some, None, sym, subst, inl, inr, arith}
use Rattle.std.specs.Prelude.{slice_get, unwrap_or}
use Rattle.std.proofs.lemmas.Option.{none-some, same_Some, slice_get_cases, slice_get_within}
use Rattle.ll_rights.specs.declared.abi.Abi.{Abi}
use Rattle.ll_tree.specs.Trees.{Entry}
use Rattle.ll_trace.specs.declared.op.Op.{Op}
use Rattle.ll_trace.specs.declared.op.Record.{Record}
use Rattle.ll_semantics.specs.Worlds.{judged}
use Rattle.ll_semantics.proofs.Steps.{length-judged}
use Rattle.ll_explanations.specs.Explained.{is_silent}
use Rattle.ll_explanations.specs.InTree.{IsExplanationIn}
use Rattle.ll_explanations.specs.declared.explanation.Explanation.{Explanation}
use Rattle.ll_findings.specs.Findings.{FindingValue, Finds, kept_at, said_by}
use Rattle.ll_findings.specs.InTree.{IsFindingIn, IsKeptIn}
use Rattle.ll_findings.specs.Kept.{kept_of}

module _ (tree : List Entry) where
  -- an explanation of which something may be kept
  kept_inside : (e : Explanation) → IsExplanationIn tree e → IsKeptIn tree (kept_of e)
  kept_inside e inside = go (is_silent e) where
    go : (silent : Bool) → IsKeptIn tree (cond silent None (Some e))
    go true = tt
    go false = inside

  -- what is said is what is kept
  pub said_inside : (found : Option Record) (kept : Option Explanation) (op : Op) (e : Explanation) → said_by found kept ≡ Some (op, e)
      → IsKeptIn tree kept → IsExplanationIn tree e
  said_inside (Some r) (Some kept) op e said inside =
      subst (λ (both : Op × Explanation). IsExplanationIn tree both.1) (same_Some (r.op, kept) (op, e) said) inside
  said_inside (Some r) None op e said inside = absurd (none-some (op, e) said)
  said_inside None kept op e said inside = absurd (none-some (op, e) said)

  module _ (explains : Bool) (abi : Abi) (records : List Record) (finding : FindingValue) (finds : Finds explains tree abi records finding) where
    -- as many explanations are kept as there are records, or none
    among : (index : ℕ) (b : Bool) → index < cond b (length records) 0 → index < length records
    among index true within = within
    among index false within = omega (arith, within)

    found_inside : (index : ℕ) (kept : Option Explanation) → slice_get finding.explanations index ≡ Some kept → IsKeptIn tree kept
    found_inside index kept there =
        let listed : index < cond explains (length records) 0 =
        subst (λ (n : ℕ). index < n) finds.as_many (slice_get_within finding.explanations index kept there) in
        let within : index < length records = among index explains listed in
        elim ((slice_get_cases records index).1) [
          | inl read ↦
              elim ((slice_get_cases (judged tree abi records) index).1) [
                | inl answered ↦
                    let is = finds.each index answered.0 kept answered.2 there read.0 read.2 in
                    subst (IsKeptIn tree) (sym is.1) (kept_inside is.0 is.2.inside)
                | inr past ↦ absurd (omega (arith, past.0, within, length-judged tree abi records))
              ]
          | inr past ↦ absurd (omega (arith, past.0, within))
        ]

    pub finding_inside : IsFindingIn tree finding
    finding_inside index = elim ((slice_get_cases finding.explanations index).1) [
      | inl found ↦
          subst (λ (o : Option (Option Explanation)). IsKeptIn tree (unwrap_or o None)) (sym found.2) (found_inside index found.0 found.2)
      | inr past ↦ subst (λ (o : Option (Option Explanation)). IsKeptIn tree (unwrap_or o None)) (sym past.1) tt
    ]
