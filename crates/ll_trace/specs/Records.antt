-- The records of a trace: its entries, each with the process that it belongs to.
-- Source: docs/FORMATS.md, "The trace file".
use Rattle.std.specs.Prelude.{◌≡◌, ℕ, List, [], ◌∷◌, map, unwrap_or, if◌then◌else◌}
use Rattle.ll_lines.specs.Reading.{IsGood}
use Rattle.ll_trace.specs.declared.op.Record.{Record}
use Rattle.ll_trace.specs.Entries.{Entry, is_start, process_count, process_named, trace_file}

-- A start belongs to the process that it starts, every other entry to the process that its pid names.
abbrev pub process_of : List Entry → Entry → ℕ
process_of past entry = if is_start entry.op then process_count past else unwrap_or (process_named past entry.pid) 0

abbrev pub record_of : List Entry → Entry → Record
record_of past entry = record { line = entry.line; process = record { 0 = process_of past entry }; pid = entry.pid; op = entry.op }

-- the records of entries that come after the past
abbrev pub records_after : List Entry → List Entry → List Record
records_after past [] = []
records_after past (entry ∷ entries) = record_of past entry ∷ records_after (entry ∷ past) entries

-- the entry that a record was read from
abbrev pub entry_of : Record → Entry
entry_of r = record { line = r.line; pid = r.pid; op = r.op }

-- A trace file reads as these records.
pub record IsTrace (bytes : List ℕ) (records : List Record) : Type 0 where
  pub reads : IsGood trace_file bytes (map entry_of records)
  pub processes : records ≡ records_after [] (map entry_of records)
