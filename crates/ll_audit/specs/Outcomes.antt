-- How a run ends: its status, what it writes to standard output, and the line on standard error.
-- Source: docs/FORMATS.md, "Statuses" and "Faults of a run".
use Rattle.std.specs.Prelude.{◌≡◌, ◌⊎◌, ℕ, List, Option}
use Rattle.std.specs.Bool.{OnFalse, OnTrue}
use Rattle.std.specs.Io.KnownBytes.{Appends}
use Rattle.ll_report.specs.Report.{report_status}
pub use Rattle.ll_report.specs.Writing.{AppendsBeginning, AppendsPart}
use Rattle.ll_audit.specs.declared.outcome.Outcome.{Outcome}
use Rattle.ll_audit.specs.declared.outcome.Outcome.TheVariants as outcome
use Rattle.ll_audit.specs.declared.lines.Failure.{Failure}
use Rattle.ll_audit.specs.declared.lines.Failure.TheVariants.{Unwritten}
use Rattle.ll_audit.specs.declared.outcome.Ending.{Ending}
use Rattle.ll_audit.specs.FaultLines.{failure_line, failure_status}
use Rattle.ll_audit.specs.ShownReports.{told_in}

-- A failure has its status, and its line was appended to the lines on standard error, if it could be told, and else a
-- beginning of it that isn't the line.
abbrev pub Complains : Failure → Ending → Option (List ℕ) → Option (List ℕ) → Type 0
Complains one ending lines_old lines_new =
    (ending.status ≡ failure_status one)
    × OnTrue ending.told (Appends lines_old lines_new (failure_line one))
    × OnFalse ending.told (AppendsPart lines_old lines_new (failure_line one))

-- An output before a run and after it, and which bytes it holds, if they are known.
pub record Stream (Output : Type 0) : Type 0 where
  pub contents : Output → Option (List ℕ)
  pub old : Output
  pub new : Output

-- An outcome ends in this way, with what it does to the output and to the error output.
abbrev pub EndsWith : {Output Errors : Type 0} → Stream Output → Stream Errors → Outcome → Ending → Type 0
EndsWith out err (outcome.Report report) ending =
    (Complains Unwritten ending (err.contents err.old) (err.contents err.new)
    × AppendsBeginning (out.contents out.old) (out.contents out.new) (told_in report).text)
    ⊎ ((ending.status ≡ report_status (told_in report).refused) × Appends (out.contents out.old) (out.contents out.new) (told_in report).text
    × (err.new ≡ err.old))
EndsWith out err (outcome.Text error) ending =
    Complains Unwritten ending (err.contents err.old) (err.contents err.new) ⊎ ((ending.status ≡ 0) × (err.new ≡ err.old))
EndsWith out err (outcome.Usage error) ending = (ending.status ≡ 2) × (out.new ≡ out.old)
EndsWith out err (outcome.Misuse why) ending = (ending.status ≡ 2) × (out.new ≡ out.old)
EndsWith out err (outcome.Failure one) ending =
    Complains one ending (err.contents err.old) (err.contents err.new) × (out.new ≡ out.old)
