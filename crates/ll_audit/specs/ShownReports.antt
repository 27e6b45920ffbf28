-- What `audit_with` answers: the report on the answers of one fold over the records as they are taken, under each
-- version that is asked for, of which as much is shown as is asked for, record by record or by kind; and what a report
-- that is ready to be written tells.
-- Source: docs/FORMATS.md, "The report", "Explanations", "Several versions", "The report as JSON" and "Kinds"; the forms of a
-- report that is ready are the code's own.
use Rattle.std.specs.Prelude.{◌≡◌, ℕ, List, map}
use Rattle.ll_rights.specs.declared.abi.Abi.{Abi}
use Rattle.ll_rights.specs.Abis.{number_of}
use Rattle.ll_tree.specs.Trees.{Entry}
use Rattle.ll_trace.specs.declared.op.Record.{Record}
use Rattle.ll_trace.specs.Taken.{records_by}
use Rattle.ll_report.specs.Made.{Told}
use Rattle.ll_report.specs.Found.{Found, found_under}
use Rattle.ll_report.specs.Rows.{are_several, refused_under_some, rows_text, total_under_text}
use Rattle.ll_json.specs.Reports.{IsJsonReport}
use Rattle.ll_json.specs.Records.{Version}
use Rattle.ll_command.specs.declared.command.TheConstants.{VERSION}
use Rattle.ll_report.specs.declared.options.Format.{Format}
use Rattle.ll_report.specs.declared.options.Format.TheVariants.{Json, Text}
use Rattle.ll_trace.specs.declared.trace.Effort.TheVariants.{AsRecorded}
use Rattle.ll_report.specs.declared.options.Options.{Options}
use Rattle.ll_report.specs.declared.options.TheConstants.{ALL_LINES}
use Rattle.ll_rights.specs.AbiRanges.{versions_in}
use Rattle.ll_audit.specs.Audits.{BothRead}
use Rattle.ll_audit.specs.declared.report_text.ReportText.{ReportText}
use Rattle.ll_audit.specs.declared.report_text.ReportText.TheVariants as form

-- what is found of the records under a version
abbrev pub found_at : Options → List Entry → List Record → Abi → Found
found_at options tree records abi = found_under options.shown tree (records_by options.effort abi records) abi

-- what is found of the records under each version that is asked for, the oldest first
abbrev pub findings : Options → List Entry → List Record → List Found
findings options tree records = map (found_at options tree records) (versions_in options.abis)

-- the last line of a version
abbrev pub total_at : Options → List Entry → List Record → Abi → List ℕ
total_at options tree records abi =
    total_under_text (are_several (versions_in options.abis)) (number_of abi) (found_at options tree records abi)

-- ---- the report as text

pub record IsTextReport (options : Options) (tree : List Entry) (records : List Record) (report : Told) : Type 0 where
  pub text : report.text ≡ rows_text options.shown (number_of options.abis.oldest) (findings options tree records) records
  pub refused : report.refused ≡ refused_under_some (findings options tree records) records

-- ---- the report as JSON, by this version of the program

-- a version with the records as they are taken under it
abbrev pub version_at : Options → List Record → Abi → Version
version_at options records abi = record { abi = abi; records = records_by options.effort abi records }

-- the versions that the options ask for, the oldest first
abbrev pub versions_by : Options → List Record → List Version
versions_by options records = map (version_at options records) (versions_in options.abis)

-- ---- the report that the options ask for

abbrev pub IsReportIn : Format → Options → List Entry → List Record → Told → Type 0
IsReportIn Text options tree records report = IsTextReport options tree records report
IsReportIn Json options tree records report =
    IsJsonReport options.shown tree (number_of options.abis.oldest) (versions_by options records) records VERSION.now report

abbrev pub IsReportBy : Options → List Entry → List Record → Told → Type 0
IsReportBy options tree records report = IsReportIn options.format options tree records report

-- the report that the options ask for on what both files say
abbrev pub IsReportWith : Options → List ℕ → List ℕ → Told → Type 0
IsReportWith options tree_bytes trace_bytes report = BothRead tree_bytes trace_bytes (λ tree records. IsReportBy options tree records report)

-- the options of the plain report: one version, rulesets as they were recorded, all lines, no explanations, as text
abbrev pub plain_options : Abi → Options
plain_options abi = record { abis = record { oldest = abi; newest = abi }; effort = AsRecorded; shown = ALL_LINES; format = Text }

-- ---- what a report that is ready to be written tells

-- in each of its forms
abbrev pub told_in : ReportText → Told
told_in (form.Text report) = report
told_in (form.Json report) = report
