-- What the report is made of, by what was found under each of them.
-- Source: docs/FORMATS.md, "Several versions".
use Rattle.std.specs.Prelude.{◌++◌, ℕ, Bool, List, [], codes, if◌then◌else◌, length, map}
use Rattle.std.specs.List.{list_any, range_with_len}
use Rattle.ll_tree.specs.Trees.{Entry}
use Rattle.ll_trace.specs.declared.op.Record.{Record}
use Rattle.ll_findings.specs.Findings.{FindingValue, answer_in}
use Rattle.ll_explain.specs.Told.{text_told}
use Rattle.ll_report.specs.declared.options.Shown.{Shown}
use Rattle.ll_report.specs.declared.rows.Row.{Row}
use Rattle.ll_report.specs.declared.spans.Form.TheVariants.{Answers, Explanations}
use Rattle.ll_report.specs.Found.{Found}
use Rattle.ll_report.specs.Lines.{verdict_of}
use Rattle.ll_report.specs.Made.{Made, line_numbers, rows_of}
use Rattle.ll_report.specs.Printed.{printed_under, text_printed, verdict_printed}
use Rattle.ll_report.specs.Report.{is_refused}
use Rattle.ll_report.specs.Rows.{behind_line, is_row_left_out, told_as}
use Rattle.ll_report.specs.Spans.{versions_text}

-- what a finding says, by the tree and the records of the trace: the answers, and the explanations, where they are shown
abbrev pub found_in : Bool → List Entry → List Record → FindingValue → Found
found_in explains tree records finding = record {
  answers = finding.answers;
  explanations = if explains then map (text_told tree records finding) (range_with_len 0 (length records)) else [];
}

-- the same under each version
abbrev pub founds_in : Bool → List Entry → List Record → List FindingValue → List Found
founds_in explains tree records findings = map (found_in explains tree records) findings

-- the answers alone, without explanations, under one version and under each
abbrev pub answered : FindingValue → Found
answered finding = record { answers = finding.answers; explanations = [] }

abbrev pub answers_in : List FindingValue → List Found
answers_in findings = map answered findings

-- some version refuses the record at an index
abbrev pub some_refuses : List FindingValue → ℕ → Bool
some_refuses findings index = list_any (λ finding. is_refused (verdict_of (answer_in finding index))) findings

-- ---- forms of the report

-- how a form tells of the record at an index: as much as is shown, over versions of which the oldest has this number, by
-- the tree and the records of the trace, and what was found
abbrev pub Telling : Type 0
Telling = Shown → ℕ → List Entry → List Record → List FindingValue → ℕ → Record → List ℕ

abbrev pub row_told : Telling → Row → List ℕ
row_told told row =
    told row.shown row.oldest row.found.tree.now row.found.records.now row.found.findings.now row.found.index row.record.now

-- nothing is told of a record that is left out
abbrev pub if_shown : Telling → Telling
if_shown told shown oldest tree records findings index r =
    if is_row_left_out shown (answers_in findings) index then [] else told shown oldest tree records findings index r

-- what a report is made of in a form with these last lines
abbrev pub made_in : Telling → (ℕ → List FindingValue → List ℕ) → Shown → ℕ → List Entry → List Record → List FindingValue → Made
made_in told last shown oldest tree records findings = record {
  lines = line_numbers records;
  shown = rows_of (if_shown told shown oldest tree records findings) 0 records;
  last = last oldest findings;
}

-- the form that is text
abbrev pub row_in_words : Telling
row_in_words shown oldest tree records findings index r =
    told_as shown.kinds r ++ versions_text Answers oldest (printed_under verdict_printed tree records findings index) ++ codes "\n"
    ++ behind_line shown.explanations (versions_text Explanations oldest (printed_under text_printed tree records findings index))
