-- What a report is made of: what is shown of each record, one after another, the lines of the records, and the last lines.
-- Source: docs/FORMATS.md, "The report".
use Rattle.std.specs.Prelude.{◌+◌, ◌++◌, ℕ, List, [], ◌∷◌, map, slice_get, unwrap_or}
use Rattle.std.specs.List.{flat_map}
use Rattle.ll_trace.specs.declared.op.Record.{Record}
use Rattle.ll_report.specs.declared.report.Report.{Report}

-- a row is what is shown of a record, which may be nothing
pub record Made : Type 0 where
  pub lines : List ℕ
  pub shown : List (List ℕ)
  pub last : List ℕ

-- the whole text
abbrev pub text_of : Made → List ℕ
text_of made = flat_map (λ row. row) made.shown ++ made.last

-- the row at an index
abbrev pub row_at : Made → ℕ → List ℕ
row_at made index = unwrap_or (slice_get made.shown index) []

-- the lines of records
abbrev pub line_numbers : List Record → List ℕ
line_numbers records = map (λ (r : Record). r.line) records

-- The rows of records, the first of which is at an index of the trace. A row is given by the index of its record and the record.
unfoldable pub rows_of : (ℕ → Record → List ℕ) → ℕ → List Record → List (List ℕ)
rows_of row index [] = []
rows_of row index (r ∷ others) = row index r ∷ rows_of row (index + 1) others

-- the row at an index, or the last lines where there are fewer rows
abbrev pub part_at : Made → ℕ → List ℕ
part_at made index = unwrap_or (slice_get made.shown index) made.last

-- what a report tells: its text, and how many records are refused
pub record Told : Type 0 where
  pub text : List ℕ
  pub refused : ℕ

-- by a report whose bytes are there
abbrev pub told_by : Report → Told
told_by report = record { text = report.bytes.items; refused = report.refused }
