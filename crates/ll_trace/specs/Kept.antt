-- What the reader of a trace keeps beside the records: for each pid its latest process, and whether that one still runs.
-- Source: docs/FORMATS.md, "The trace file".
use Rattle.std.specs.Prelude.{◌≡◌, ℕ, ◌+◌, ◌==◌, Bool, true, false, List, [], ◌∷◌, map, reverse, Option, Some, None, option_map, if◌then◌else◌}
use Rattle.std.specs.FinMap.{get}
use Rattle.std.specs.Option.{option_map_or}
use Rattle.ll_trace.specs.declared.reader.Entry as declared
use Rattle.ll_trace.specs.declared.owners.Owner.{Owner}
use Rattle.ll_trace.specs.declared.reader.Reader.{Reader}
use Rattle.ll_trace.specs.Entries.{Entry, is_start_of, is_end_of, process_count}
use Rattle.ll_trace.specs.Records.{entry_of}
use Rattle.ll_trace.specs.Traces.{AreRecords}

-- whether the latest process of a pid runs
abbrev pub runs : Option Owner → Bool
runs owner = option_map_or (λ (one : Owner). one.running) owner false

-- the number of that process
abbrev pub number : Option Owner → Option ℕ
number owner = option_map (λ (one : Owner). one.process.0) owner

abbrev pub stopped : Option Owner → Option Owner
stopped owner = option_map (λ (one : Owner). record one { running = false }) owner

-- the latest process of a pid
abbrev pub owner_of : List Entry → ℕ → Option Owner
owner_of [] pid = None
owner_of (entry ∷ past) pid =
    if is_start_of pid entry then Some (record { process = record { 0 = process_count past }; running = true }) else (
    if is_end_of pid entry then stopped (owner_of past pid) else owner_of past pid)

-- the entries that were read
abbrev pub entries : Reader → List Entry
entries reader = map entry_of reader.records.items

abbrev pub past : Reader → List Entry
past reader = reverse (entries reader)

-- the owners and the count are those of a past
pub record Follows (reader : Reader) (past : List Entry) : Type 0 where
  pub count : reader.processes ≡ process_count past
  pub owners : (pid : ℕ) → get reader.owners pid ≡ owner_of past pid

-- all that is kept agrees with the entries
pub record IsKept (reader : Reader) : Type 0 where
  pub follows : Follows reader (past reader)
  pub records : AreRecords reader.records.items

-- what a line says, as the reading of a file sees it
abbrev pub entry_view : declared.Entry → Entry
entry_view entry = record { line = entry.line; pid = entry.pid; op = entry.op }

-- after an entry is noted the owners follow it too, while the records are still those from before
pub record IsNoted (old new : Reader) (entry : Entry) : Type 0 where
  pub follows : Follows new (entry ∷ past old)
  pub records : new.records.items ≡ old.records.items

-- one process more, which has the pid
pub record Begins (old new : Reader) (pid : ℕ) : Type 0 where
  pub owners : (q : ℕ) → get new.owners q ≡ (if pid == q then Some (record { process = record { 0 = old.processes }; running = true }) else get old.owners q)
  pub count : new.processes ≡ old.processes + 1
  pub records : new.records.items ≡ old.records.items

-- the process of the pid runs no more
pub record Stops (old new : Reader) (pid : ℕ) : Type 0 where
  pub owners : (q : ℕ) → get new.owners q ≡ (if pid == q then stopped (get old.owners q) else get old.owners q)
  pub count : new.processes ≡ old.processes
  pub records : new.records.items ≡ old.records.items
