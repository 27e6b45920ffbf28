-- What a run of the program comes to: the report on the files that its words name, or why there is none.
-- Source: docs/FORMATS.md, "The command line" and "Statuses".
use Rattle.std.specs.Prelude.{◌≡◌, ◌⊎◌, ◌<◌, ℕ, List, ⊤, Option, Some, None}
use Rattle.std.specs.Io.KnownBytes.{Appends}
use Rattle.ll_lines.specs.Reading.{Format, IsBad}
use Rattle.ll_tree.specs.TreeReading.{tree_format}
use Rattle.ll_lines.specs.declared.fault.ReadFault.{ReadFault}
use Rattle.ll_trace.specs.Entries.{trace_file}
use Rattle.ll_report.specs.Made.{Told}
use Rattle.ll_report.specs.Report.{report_status}
use Rattle.ll_audit.specs.declared.fault.Fault.TheVariants as fault
use Rattle.ll_audit.specs.declared.lines.Failure.{Failure}
use Rattle.ll_audit.specs.declared.lines.Failure.TheVariants as failure
use Rattle.ll_audit.specs.declared.outcome.Ending.{Ending}
use Rattle.ll_audit.specs.declared.outcome.Outcome.{Outcome}
use Rattle.ll_audit.specs.declared.outcome.Outcome.TheVariants as outcome
use Rattle.ll_audit.specs.Audits.{ReadsAsTrace, ReadsAsTree}
use Rattle.ll_audit.specs.ShownReports.{IsReportWith, told_in}
use Rattle.ll_command.specs.Command.{AreWrong, AskForText, Request, Text, request_of}
use Rattle.ll_audit.specs.FaultLines.{failure_line, failure_status}
use Rattle.ll_audit.specs.Inputs.{AreBytesOf, Files, HasFile, HasNoFile}
use Rattle.ll_audit.specs.Outcomes.{AppendsBeginning, Complains, Stream}

-- the report on the files that a request names, with the options that it asks for
pub record Reports (files : Option Files) (request : Request) (report : Told) : Type 0 where
  pub tree_bytes : List ℕ
  pub trace_bytes : List ℕ
  pub tree_file : AreBytesOf files request.tree tree_bytes
  pub trace_file : AreBytesOf files request.trace trace_bytes
  pub is_report : IsReportWith request.options tree_bytes trace_bytes report

-- the words ask for a run, and this is its report
pub record HasReport (words : List Text) (files : Option Files) (report : Told) : Type 0 where
  pub request : Request
  pub asked : request_of words ≡ Some request
  pub reports : Reports files request report

-- the file of a name reads as bad, with this fault
pub record IsBadFile {Entry : Type 0} (format : Format Entry) (files : Option Files) (name : Text) (fault : ReadFault) : Type 0 where
  pub bytes : List ℕ
  pub file : AreBytesOf files name bytes
  pub is_bad : IsBad format bytes fault

-- the file of a name reads: as a tree, or as a trace
abbrev pub HasTree : Option Files → Text → Type 0
HasTree files name = (bytes : List ℕ) × AreBytesOf files name bytes × ReadsAsTree bytes

abbrev pub HasTrace : Option Files → Text → Type 0
HasTrace files name = (bytes : List ℕ) × AreBytesOf files name bytes × ReadsAsTrace bytes

-- this is the name of the file that can't be read: the tree, or the trace, where the tree can be read
abbrev pub IsUnread : Option Files → Request → Text → Type 0
IsUnread files request name =
    ((name ≡ request.tree) × HasNoFile files request.tree)
    ⊎ ((name ≡ request.trace) × HasFile files request.tree × HasNoFile files request.trace)

-- What a failure says of the files that a request names, where the count of failures to read one was `before` and is
-- `after`.
abbrev pub IsFailureOf : Option Files → Request → ℕ → ℕ → Failure → Type 0
IsFailureOf files request before after (failure.Audit (fault.Tree bad)) = IsBadFile tree_format files request.tree bad
IsFailureOf files request before after (failure.Audit (fault.Trace bad)) =
    HasTree files request.tree × IsBadFile trace_file files request.trace bad
IsFailureOf files request before after (failure.Audit fault.Workers) = ⊥
IsFailureOf files request before after (failure.Audit fault.Memory) = ⊤
IsFailureOf files request before after (failure.Audit fault.NoThread) = HasTree files request.tree × HasTrace files request.trace
IsFailureOf files request before after (failure.Unread name) = IsUnread files request name.now × (before < after)
IsFailureOf files request before after failure.Unwritten = ⊥

-- out of memory, or the words ask for a run that fails in this way
abbrev pub HasFailure : List Text → Option Files → ℕ → ℕ → Failure → Type 0
HasFailure words files before after one =
    (one ≡ failure.Audit fault.Memory)
    ⊎ ((request : Request) × (request_of words ≡ Some request) × IsFailureOf files request before after one)

-- what an outcome says of the words and of the files
abbrev pub IsOutcomeOf : List Text → Option Files → ℕ → ℕ → Outcome → Type 0
IsOutcomeOf words files before after (outcome.Report report) = HasReport words files (told_in report)
IsOutcomeOf words files before after (outcome.Text error) = AskForText words
IsOutcomeOf words files before after (outcome.Usage error) = AreWrong words
IsOutcomeOf words files before after (outcome.Misuse why) = AreWrong words
IsOutcomeOf words files before after (outcome.Failure one) = HasFailure words files before after one

-- there is help, the version or a report to be written
abbrev pub HasOutput : List Text → Option Files → Type 0
HasOutput words files = AskForText words ⊎ ((report : Told) × HasReport words files report)

-- With status 0 or 1 words that ask for a run have its report appended to what the output held, and the status is 1
-- exactly where some record is refused.
abbrev pub WritesReport : List Text → Option Files → ℕ → Option (List ℕ) → Option (List ℕ) → Type 0
WritesReport words files status old new =
    (status ≡ 0) ⊎ (status ≡ 1) → (request : Request) → request_of words ≡ Some request →
    (report : Told) × Reports files request report × Appends old new report.text × (status ≡ report_status report.refused)

-- With status 2 the words have a fault that is no call for help or the version.
abbrev pub HasWrongWords : List Text → ℕ → Type 0
HasWrongWords words status = status ≡ 2 → AreWrong words

-- Words that ask for no run end with status 2, or with 0 where they ask for help or the version, or with 4.
abbrev pub EndsWithoutRun : List Text → ℕ → Type 0
EndsWithoutRun words status =
    request_of words ≡ None →
    (status ≡ 2) ⊎ ((status ≡ 0) × AskForText words) ⊎ (status ≡ 4)

-- help or the version is asked for, or known bytes grow by a beginning of the report that the words ask for
abbrev pub IsCutShort : List Text → Option Files → Option (List ℕ) → Option (List ℕ) → Type 0
IsCutShort words files old new =
    AskForText words
    ⊎ ((report : Told) × HasReport words files report × AppendsBeginning old new report.text)

-- With status 2 or 3 nothing is written to the output. Nor is it with status 4, unless writing the report, help or the version failed:
-- then a beginning of the report may be there.
abbrev pub WritesNothing : {Output : Type 0} → Stream Output → List Text → Option Files → ℕ → Type 0
WritesNothing out words files status =
    ((status ≡ 2) ⊎ (status ≡ 3) → out.new ≡ out.old)
    × ((status ≡ 4) → (out.new ≡ out.old) ⊎ IsCutShort words files (out.contents out.old) (out.contents out.new))

-- With status 0 or 1 nothing is written to the error output.
abbrev pub StaysQuiet : {Errors : Type 0} → ℕ → Errors → Errors → Type 0
StaysQuiet status old new = (status ≡ 0) ⊎ (status ≡ 1) → new ≡ old

-- why a run ends with status 3 or 4: it fails, or the help, the version or the report that there is can't be written
abbrev pub IsWhy : List Text → Option Files → ℕ → ℕ → Failure → Type 0
IsWhy words files before after one =
    HasFailure words files before after one ⊎ ((one ≡ failure.Unwritten) × HasOutput words files)

-- With status 3 or 4 there is a reason of that status, and its line is appended to the error output, if it could be told, and
-- else a beginning of it that isn't the line.
abbrev pub TellsWhy : List Text → Option Files → ℕ → ℕ → Ending → Option (List ℕ) → Option (List ℕ) → Type 0
TellsWhy words files before after ending old new =
    (ending.status ≡ 3) ⊎ (ending.status ≡ 4) →
    (one : Failure) × IsWhy words files before after one × Complains one ending old new

-- With status 3 or 4 there is a reason of that status, and the error output grows by a beginning of its line.
abbrev pub HasReason : List Text → Option Files → ℕ → ℕ → ℕ → Option (List ℕ) → Option (List ℕ) → Type 0
HasReason words files before after status old new =
    (status ≡ 3) ⊎ (status ≡ 4) →
    (one : Failure) × IsWhy words files before after one × (status ≡ failure_status one) × AppendsBeginning old new (failure_line one)
