-- The stricter rule that a pid is never used again, for the law that traces which keep to it read as they did.
-- Source: docs/FORMATS.md, "A pid that is used again".
use Rattle.std.specs.Prelude.{◌≡◌, ℕ, ◌||◌, Bool, false, List, [], ◌∷◌, map, reverse, Option}
use Rattle.std.specs.Option.{option_map_or}
use Rattle.ll_lines.specs.declared.fault.Cause.{Cause}
use Rattle.ll_lines.specs.Reading.{Format, IsGood}
use Rattle.ll_trace.specs.declared.op.Record.{Record}
use Rattle.ll_trace.specs.Entries.{Entry, entry_at, is_start_of, entry_fault_by, started_pid}
use Rattle.ll_trace.specs.Records.{entry_of, records_after}

-- whether an entry of the past starts a process under a pid
abbrev pub is_used : List Entry → ℕ → Bool
is_used [] pid = false
is_used (entry ∷ past) pid = is_start_of pid entry || is_used past pid

-- an entry that starts a process under a pid which was used before
abbrev pub is_used_again : List Entry → Entry → Bool
is_used_again past entry = option_map_or (is_used past) (started_pid entry) false

abbrev pub strict_entry_fault : List Entry → Entry → Option Cause
strict_entry_fault past entry = entry_fault_by is_used_again past entry

abbrev pub strict_file : Format Entry
strict_file = record { entry_of_line = entry_at; fault_after = λ earlier entry. strict_entry_fault (reverse earlier) entry }

-- A trace file reads as these records under the stricter rule.
pub record IsStrictTrace (bytes : List ℕ) (records : List Record) : Type 0 where
  pub reads : IsGood strict_file bytes (map entry_of records)
  pub processes : records ≡ records_after [] (map entry_of records)
