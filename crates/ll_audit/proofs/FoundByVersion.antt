-- What a report says by the tree and the records of the trace is what is found of the records as each version takes them.
use Rattle.std.proofs.Common.{◌≡◌, Bool, List, [], ◌∷◌, ap, ap₂, map, refl}
use Rattle.std.proofs.lemmas.List.Elements.{All-cons, All-nil}
use Rattle.ll_rights.specs.declared.abi.Abi.{Abi}
use Rattle.ll_tree.specs.Trees.{Entry}
use Rattle.ll_trace.specs.declared.op.Record.{Record}
use Rattle.ll_findings.specs.Findings.{FindingValue}
use Rattle.ll_findings.specs.InTree.{AreFindingsIn, IsFindingIn}
use Rattle.ll_findings.proofs.NodesOfTree.{finding_inside}
use Rattle.ll_report.specs.Found.{Found}
use Rattle.ll_report.specs.Versions.{founds_in}
use Rattle.ll_report.proofs.FoundJudged.{found_as_judged}
use Rattle.ll_report.specs.declared.options.Options.{Options}
use Rattle.ll_report.specs.declared.options.Shown.{Shown}
use Rattle.ll_rights.specs.AbiRanges.{versions_in}
use Rattle.ll_json.specs.Records.{Version}
use Rattle.ll_json.specs.Reports.{AreFound, found_of}
use Rattle.ll_audit.specs.ShownReports.{findings, found_at, version_at, versions_by}

module _ (shown : Shown) (tree : List Entry) (trace : List Record) where
  pub same_founds : (versions : List Version) (findings : List FindingValue) → AreFound shown.explanations tree trace versions findings
      → founds_in shown.explanations tree trace findings ≡ found_of shown tree versions
  same_founds [] [] are = refl
  same_founds [] (finding ∷ others) are = absurd are
  same_founds (version ∷ newer) [] are = absurd are
  same_founds (version ∷ newer) (finding ∷ others) are =
      ap₂ (λ (one : Found) (more : List Found). one ∷ more)
      (found_as_judged shown tree version.abi version.records trace finding are.0.finds are.0.taken) (same_founds newer others are.1)

module _ (options : Options) (tree : List Entry) (records : List Record) where
  found_by : (abis : List Abi) → found_of options.shown tree (map (version_at options records) abis) ≡ map (found_at options tree records) abis
  found_by [] = refl
  found_by (abi ∷ newer) = ap (λ (others : List Found). found_at options tree records abi ∷ others) (found_by newer)

  -- what is found under the versions that are asked for
  pub found_each : found_of options.shown tree (versions_by options records) ≡ findings options tree records
  found_each = found_by (versions_in options.abis)

-- what is found under each version names nodes of the tree
pub founds_inside : (explains : Bool) (tree : List Entry) (trace : List Record) (versions : List Version) (findings : List FindingValue)
    → AreFound explains tree trace versions findings → AreFindingsIn tree findings
founds_inside explains tree trace [] [] are = All-nil (IsFindingIn tree)
founds_inside explains tree trace [] (finding ∷ others) are = absurd are
founds_inside explains tree trace (version ∷ newer) [] are = absurd are
founds_inside explains tree trace (version ∷ newer) (finding ∷ others) are =
    All-cons (IsFindingIn tree) finding others (finding_inside tree explains version.abi version.records finding are.0.finds)
    (founds_inside explains tree trace newer others are.1)
