-- The report over versions, which may be one alone: of each record what is answered under each of them, and one total a
-- version.
-- Source: docs/FORMATS.md, "The report", "Explanations", "Several versions" and "Kinds".
use Rattle.std.specs.Prelude.{◌+◌, ◌&&◌, ◌||◌, ◌++◌, ℕ, Bool, not, List, [], ◌∷◌, codes, count_by, decimal, if◌then◌else◌, length, map, nat_lt}
use Rattle.std.specs.List.{flat_map, list_any, range_with_len}
use Rattle.ll_trace.specs.declared.op.Record.{Record}
use Rattle.ll_report.specs.declared.options.Shown.{Shown}
use Rattle.ll_trace.specs.Operations.{op_name}
use Rattle.ll_report.specs.declared.spans.Form.TheVariants.{Answers, Explanations}
use Rattle.ll_report.specs.Calls.{call_text}
use Rattle.ll_report.specs.Found.{Found, answer_at, explanation_at}
use Rattle.ll_report.specs.Lines.{verdict_of}
use Rattle.ll_report.specs.Kinds.{kinds_text}
use Rattle.ll_report.specs.Made.{line_numbers, rows_of}
use Rattle.ll_report.specs.Report.{Verdict, counts_text, is_allowed, is_moot, is_refused, record_text, verdict_text}
use Rattle.ll_report.specs.Spans.{agree, versions_text}

-- how the report tells of the record of a line
abbrev pub told_of : Record → List ℕ
told_of r = record_text r.line r.pid (op_name r.op)

-- how it tells of a record alone, or of the record's call
abbrev pub told_as : Bool → Record → List ℕ
told_as kinds r = if kinds then call_text r.op else told_of r

-- what is answered to the record at an index, and how it is explained, under each version
abbrev pub answers_said : List Found → ℕ → List (List ℕ)
answers_said founds index = map (λ found. verdict_text (verdict_of (answer_at found index))) founds

abbrev pub explanations_said : List Found → ℕ → List (List ℕ)
explanations_said founds index = map (λ found. explanation_at found index) founds

-- some version refuses the record at an index
abbrev pub is_refused_under_some : List Found → ℕ → Bool
is_refused_under_some founds index = list_any (λ found. is_refused (verdict_of (answer_at found index))) founds

-- a record that is left out: only refused ones are shown, or only those whose answer differs, and it is none
abbrev pub is_row_left_out : Shown → List Found → ℕ → Bool
is_row_left_out shown founds index =
    (shown.refused_alone && not (is_refused_under_some founds index)) || (shown.differing_alone && agree (answers_said founds index))

-- what is behind a line: the explanation, where explanations are shown
abbrev pub behind_line : Bool → List ℕ → List ℕ
behind_line explanations explanation = if explanations then explanation else []

-- What is shown of the record at an index, of which the report tells so: nothing, or its line and what is behind it.
abbrev pub row_text : Shown → ℕ → List Found → ℕ → List ℕ → List ℕ
row_text shown oldest founds index told =
    if is_row_left_out shown founds index then []
    else told ++ versions_text Answers oldest (answers_said founds index) ++ codes "\n"
    ++ behind_line shown.explanations (versions_text Explanations oldest (explanations_said founds index))

-- what is shown of each record, or said of it from its operation on, where kinds are shown
abbrev pub rows_shown : Shown → ℕ → List Found → List Record → List (List ℕ)
rows_shown shown oldest founds records = rows_of (λ index r. row_text shown oldest founds index (told_as shown.kinds r)) 0 records

-- how many answers a test of their verdicts holds for
abbrev pub count_under : (Verdict → Bool) → Found → ℕ
count_under test found = count_by (λ answer. test (verdict_of answer)) found.answers

-- there is more than one version
abbrev pub are_several : {X : Type 0} → List X → Bool
are_several versions = nat_lt 1 (length versions)

-- the number of a version, if it is one of several
abbrev pub abi_text : Bool → ℕ → List ℕ
abi_text is_one_of_several abi = if is_one_of_several then codes " abi " ++ decimal abi else []

-- the last line of a version
abbrev pub total_under_text : Bool → ℕ → Found → List ℕ
total_under_text is_one_of_several abi found =
    codes "total " ++ decimal (length found.answers) ++ abi_text is_one_of_several abi
    ++ counts_text (count_under is_allowed found) (count_under is_refused found) (count_under is_moot found)

-- the last lines of versions, of which the first has this number
unfoldable pub totals_from : Bool → ℕ → List Found → List ℕ
totals_from are_of_several abi [] = []
totals_from are_of_several abi (found ∷ others) = total_under_text are_of_several abi found ++ totals_from are_of_several (abi + 1) others

-- the last lines, one a version, of which the oldest has this number
abbrev pub totals_text : ℕ → List Found → List ℕ
totals_text oldest founds = totals_from (are_several founds) oldest founds

-- ---- by kind

-- what is before what is said on the line of a kind: how many records are of it, and the line of the first
abbrev pub kind_head : ℕ → ℕ → List ℕ
kind_head records line = decimal records ++ codes " " ++ decimal line ++ codes " "

-- ---- the report

-- what is shown of records, or of their kinds
abbrev pub shown_text : Shown → ℕ → List Found → List Record → List ℕ
shown_text shown oldest founds records =
    if shown.kinds then kinds_text kind_head (line_numbers records) (rows_shown shown oldest founds records)
    else flat_map (λ row. row) (rows_shown shown oldest founds records)

-- the report over versions of which the oldest has this number
abbrev pub rows_text : Shown → ℕ → List Found → List Record → List ℕ
rows_text shown oldest founds records = shown_text shown oldest founds records ++ totals_text oldest founds

-- how many records some version refuses
abbrev pub refused_under_some : List Found → List Record → ℕ
refused_under_some founds records = count_by (is_refused_under_some founds) (range_with_len 0 (length records))
