-- How what is found of a record is printed: by the answer and what is kept of the explanation, the tree and the records at
-- hand.
-- Source: docs/FORMATS.md, "Several versions".
use Rattle.std.specs.Prelude.{ℕ, List, Option, map, slice_get}
use Rattle.ll_tree.specs.Trees.{Entry}
use Rattle.ll_trace.specs.declared.op.Record.{Record}
use Rattle.ll_semantics.specs.declared.answer.Answer.{Answer}
use Rattle.ll_explanations.specs.declared.explanation.Explanation.{Explanation}
use Rattle.ll_findings.specs.Findings.{FindingValue, answer_in, kept_at, said_by}
use Rattle.ll_explain.specs.Told.{said_text}
use Rattle.ll_report.specs.Lines.{verdict_of}
use Rattle.ll_report.specs.Report.{verdict_text}
use Rattle.ll_report.specs.declared.findings_at.FindingsAt.{FindingsAt}

-- a way to print the record at an index, which is answered and explained so
abbrev pub Printing : Type 0
Printing = List Entry → List Record → ℕ → Answer → Option Explanation → List ℕ

-- the words for an answer
abbrev pub verdict_printed : Printing
verdict_printed tree records index answer kept = verdict_text (verdict_of answer)

-- the lines of an explanation
abbrev pub text_printed : Printing
text_printed tree records index answer kept = said_text tree records (said_by (slice_get records index) kept)

-- what a finding has of the record, and what each of several has
abbrev pub printed_of : Printing → List Entry → List Record → ℕ → FindingValue → List ℕ
printed_of printed tree records index finding = printed tree records index (answer_in finding index) (kept_at finding index)

abbrev pub printed_under : Printing → List Entry → List Record → List FindingValue → ℕ → List (List ℕ)
printed_under printed tree records findings index = map (λ finding. printed_of printed tree records index finding) findings

-- the same of versions
abbrev pub texts_of : Printing → FindingsAt → List (List ℕ)
texts_of printed row = printed_under printed row.tree.now row.records.now row.findings.now row.index
