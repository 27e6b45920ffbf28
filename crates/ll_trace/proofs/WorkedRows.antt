-- Worked files are read as their rows say, if their readings are equal.
use Rattle.std.proofs.Common.{◌≡◌, ℕ, List, [], ◌∷◌, map, Ok, Err}
use Rattle.std.specs.List.{All}
use Rattle.std.proofs.lemmas.List.Elements.{All-nil, All-cons}
use Rattle.ll_lines.specs.declared.fault.ReadFault.{ReadFault}
use Rattle.ll_lines.specs.LineByLine.{reading}
use Rattle.ll_lines.specs.Reading.{IsBad}
use Rattle.ll_lines.proofs.ReadingLemmas.{bad_from_reading, good_from_reading}
use Rattle.ll_trace.specs.declared.op.Record.{Record}
use Rattle.ll_trace.specs.Entries.{trace_file}
use Rattle.ll_trace.specs.Records.{IsTrace, entry_of, records_after}

pub faulty_rows : (rows : List (List ℕ × ReadFault)) → map (λ row. reading trace_file row.0) rows ≡ map (λ row. Err row.1) rows
    → All (λ row. IsBad trace_file row.0 row.1) rows
faulty_rows [] read = All-nil (λ row. IsBad trace_file row.0 row.1)
faulty_rows (row ∷ rows) read =
    All-cons (λ row. IsBad trace_file row.0 row.1) row rows (bad_from_reading trace_file row.0 row.1 (cc)) (faulty_rows rows (cc))

pub whole_rows : (rows : List (List ℕ × List Record)) → map (λ row. reading trace_file row.0) rows ≡ map (λ row. Ok (map entry_of row.1)) rows
    → map (λ row. row.1) rows ≡ map (λ row. records_after [] (map entry_of row.1)) rows → All (λ row. IsTrace row.0 row.1) rows
whole_rows [] read numbered = All-nil (λ row. IsTrace row.0 row.1)
whole_rows (row ∷ rows) read numbered =
    All-cons (λ row. IsTrace row.0 row.1) row rows
    (record { reads = good_from_reading trace_file row.0 (map entry_of row.1) (cc); processes = (cc) }) (whole_rows rows (cc) (cc))
