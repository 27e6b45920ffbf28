-- The lines of records as they are put together of what is found under each version.
-- Source: docs/FORMATS.md, "The report as JSON" and "Kinds"; RFC 8259.
use Rattle.std.specs.Prelude.{ℕ, Bool, true, false, List, [], ◌∷◌, ◌++◌, Option, Some, None, codes, decimal, if◌then◌else◌, slice_get}
use Rattle.json.specs.Print.{print}
use Rattle.json.specs.Token as token
use Rattle.json.specs.Token.{Token}
use Rattle.json.specs.Tree.{json_tokens}
use Rattle.ll_tree.specs.Trees.{Entry}
use Rattle.ll_trace.specs.declared.op.Op.{Op}
use Rattle.ll_trace.specs.declared.op.Record.{Record}
use Rattle.ll_trace.specs.Operations.{op_name}
use Rattle.ll_semantics.specs.declared.answer.Answer.{Answer}
use Rattle.ll_findings.specs.Findings.{FindingValue, said_by}
use Rattle.ll_explanations.specs.declared.explanation.Explanation.{Explanation}
use Rattle.ll_report.specs.Printed.{printed_under}
use Rattle.ll_report.specs.Spans.{Span, spans_of}
use Rattle.ll_report.specs.Versions.{Telling, answers_in}
use Rattle.ll_json.specs.Parts.{line_text, named_tokens}
use Rattle.ll_json.specs.Records.{call_members, versions_json}
use Rattle.ll_json.specs.Reports.{totals_from, totals_json}
use Rattle.ll_json.specs.Values.{answer_tokens, plain_members}

-- ---- what is said of a record under a version, by the tree and the records of the trace

-- the members of an answer, with the explanation of the call, if there is one
abbrev pub members_tokens : List Entry → List Record → Answer → Option (Op × Explanation) → List Token
members_tokens tree records answer None = named_tokens (plain_members answer)
members_tokens tree records answer (Some said) = answer_tokens tree records said.0 answer said.1

-- the same of the record at an index, which is answered and explained so, to the end of the object
abbrev pub said_tokens : List Entry → List Record → ℕ → Answer → Option Explanation → List Token
said_tokens tree records index answer kept = members_tokens tree records answer (said_by (slice_get records index) kept) ++ token.end_object ∷ []

-- printed
unfoldable pub said_of : List Entry → List Record → ℕ → Answer → Option Explanation → List ℕ
said_of tree records index answer kept = print (said_tokens tree records index answer kept)

-- ---- the answers of neighbouring versions

-- what is before the members of an answer
abbrev pub versions_tokens : ℕ → ℕ → List Token
versions_tokens first last = token.begin_object ∷ token.key (codes "abi") ∷ json_tokens (versions_json first last)

-- the answer of a span, whose members are printed
abbrev pub span_text : Span → List ℕ
span_text span = print (versions_tokens span.first span.last) ++ (codes "," ++ span.said)

-- answers, behind one or the first of all, with commas between them
unfoldable pub separated : Bool → List Span → List ℕ
separated behind [] = []
separated behind (span ∷ others) = (if behind then codes "," else []) ++ (span_text span ++ separated true others)

-- ---- rows

-- what is before the answers to a record
abbrev pub head_tokens : Record → List Token
head_tokens r =
    token.begin_object
    ∷ token.key (codes "line") ∷ token.number (decimal r.line)
    ∷ token.key (codes "pid") ∷ token.number (decimal r.pid)
    ∷ token.key (codes "op") ∷ token.string (op_name r.op)
    ∷ token.key (codes "answers") ∷ token.begin_array ∷ []

-- the same of a call alone
abbrev pub call_tokens : Record → List Token
call_tokens r = named_tokens (call_members r.op) ++ token.key (codes "answers") ∷ token.begin_array ∷ []

-- a record is told of alone, or its call
abbrev pub opening_tokens : Bool → Record → List Token
opening_tokens kinds r = if kinds then call_tokens r else head_tokens r

-- what is shown of a record, by what each version says of it
abbrev pub line_of : Bool → ℕ → Record → List (List ℕ) → List ℕ
line_of kinds oldest r said = print (opening_tokens kinds r) ++ (separated false (spans_of oldest said) ++ codes "]}\n")

-- what is before the call on the line of a kind: how many records are of it, and the line of the first
abbrev pub kind_tokens : ℕ → ℕ → List Token
kind_tokens records line =
    token.begin_object
    ∷ token.key (codes "records") ∷ token.number (decimal records)
    ∷ token.key (codes "line") ∷ token.number (decimal line) ∷ []

abbrev pub kind_head : ℕ → ℕ → List ℕ
kind_head records line = print (kind_tokens records line) ++ codes ","

-- how the record at an index is told of, alone or by its call
abbrev pub row_as : Bool → ℕ → List Entry → List Record → List FindingValue → ℕ → Record → List ℕ
row_as kinds oldest tree records findings index r = line_of kinds oldest r (printed_under said_of tree records findings index)

abbrev pub row_text : Telling
row_text shown = row_as shown.kinds

-- the last line, by what was found under versions of which the oldest has this number
abbrev pub last_line : List ℕ → ℕ → List FindingValue → List ℕ
last_line program oldest findings = line_text (totals_json (totals_from oldest (answers_in findings)) program)
