-- An audit under several versions, the newest first: what is found if it ends now, and how it goes on.
-- Source: docs/FORMATS.md, "Several versions"; that a version is explained while the next one judges is the code's own.
use Rattle.std.specs.Prelude.{◌≡◌, List, [], true, false}
use Rattle.ll_rights.specs.declared.abi.Abi.{Abi}
use Rattle.ll_rights.specs.AbiRanges.{is_in}
use Rattle.ll_trace.specs.declared.located.Located.{Located}
use Rattle.ll_trace.specs.Taken.{records_by}
use Rattle.ll_process.specs.Cases.{case_of}
use Rattle.ll_findings.specs.Findings.{AddsFinding, FindingValue, StandsInFront}
use Rattle.ll_json.specs.Reports.{AreFound}
use Rattle.ll_report.specs.declared.options.Options.{Options}
use Rattle.ll_audit.specs.ShownReports.{versions_by}
use Rattle.ll_audit.specs.declared.ranging.Progress.{Progress}
use Rattle.ll_audit.specs.declared.ranging.Progress.TheVariants as progress

-- what was judged is of this tree and this trace
abbrev pub IsOf : Located → Progress → Type 0
IsOf located progress.Begun = Unit {0}
IsOf located (progress.Judged one) = one.located.now ≡ located

-- what is found under the versions so far
abbrev pub ComesTo : Options → Progress → List FindingValue → Type 0
ComesTo options progress.Begun findings = findings ≡ []
ComesTo options (progress.Judged one) findings = AddsFinding options.shown.explanations (case_of one.located.now one.settled) one.newer findings

-- what is found under a version, if it is asked for, stands in front of what was found before
pub record Adds (options : Options) (located : Located) (abi : Abi) (before after : List FindingValue) : Type 0 where
  pub one : is_in options.abis abi ≡ true
      → StandsInFront options.shown.explanations located.tree abi (records_by options.effort abi located.trace) before after
  pub none : is_in options.abis abi ≡ false → after ≡ before

-- An audit that has gone on by one version comes to what it came to before, and to what is found under that version.
abbrev pub GoesOn : Options → Located → Abi → Progress → Progress → Type 0
GoesOn options located abi before next =
    (after : List FindingValue) → ComesTo options next after
    → (findings : List FindingValue) × ComesTo options before findings × Adds options located abi findings after

-- an audit that has gone through all versions comes to what is found under all that are asked for
abbrev pub IsThrough : Options → Located → Progress → Type 0
IsThrough options located done =
    (findings : List FindingValue) → ComesTo options done findings
    → AreFound options.shown.explanations located.tree located.trace (versions_by options located.trace) findings
