-- What holds of the records of every trace that was read, and what a trace keeps: such records, and the tables of just
-- these.
-- Source: docs/FORMATS.md, "The trace file".
use Rattle.std.specs.Prelude.{◌≡◌, ℕ, ◌+◌, ◌<◌, ◌==◌, List, [], ◌∷◌, ◌++◌, length, map, Some, None, Vec, slice_index_or, if◌then◌else◌}
use Rattle.std.specs.declared.alloc.Global.{Global}
use Rattle.ll_trace.specs.declared.op.Record.{Record}
use Rattle.ll_trace.specs.declared.tables.Tables.{Tables}
use Rattle.ll_trace.specs.declared.trace.Trace.TheInside.{Inside}
use Rattle.ll_trace.specs.Entries.{Entry, entry_fault}
use Rattle.ll_trace.specs.Records.{records_after, entry_of}
use Rattle.ll_trace.specs.Processes.{IsNumbered, is_starting, process_count, started_at, own_records, forked_by, parents}

-- no entry is at fault, by those before it
abbrev pub AreFaultless : List Entry → List Entry → Type 0
AreFaultless past [] = Unit {0}
AreFaultless past (entry ∷ entries) = (entry_fault past entry ≡ None) × AreFaultless (entry ∷ past) entries

-- Records can be those of a trace: none is at fault, by those before it, and each belongs to the process that it
-- must. So processes are numbered in the order in which they are started.
pub record AreRecords (records : List Record) : Type 0 where
  pub faultless : AreFaultless [] (map entry_of records)
  pub processes : records ≡ records_after [] (map entry_of records)
  pub numbered : IsNumbered records

-- ---- tables, by which processes are looked up and not searched for

abbrev pub lists : List (Vec ℕ Global) → List (List ℕ)
lists vecs = map (λ v. v.items) vecs

-- the indices that are noted for a process, and none for one without a list
abbrev pub indices_noted : Tables → ℕ → List ℕ
indices_noted tables process = slice_index_or (lists tables.own.items) process []

-- The indices of the records that start the processes, in the order of the processes' numbers.
pub record AreStarts (starts : List ℕ) (records : List Record) : Type 0 where
  pub one_each : length starts ≡ process_count records
  pub start : (process : ℕ) → process < process_count records → started_at records (slice_index_or starts process 0) ≡ Some process

-- the tables of some records
pub record Indexes (tables : Tables) (records : List Record) : Type 0 where
  pub by_process : tables.parents.items ≡ parents records
  pub size : length tables.own.items ≡ process_count records
  pub indices : (process : ℕ) → indices_noted tables process ≡ own_records records process
  pub by_start : AreStarts tables.starts.items records

-- one record more, at an index
pub record Adds (old new : Tables) (r : Record) (index : ℕ) : Type 0 where
  pub by_process : new.parents.items ≡ old.parents.items ++ (if is_starting r.op then forked_by r.op r.process ∷ [] else [])
  pub size : length new.own.items ≡ length old.own.items + (if is_starting r.op then 1 else 0)
  pub indices : (process : ℕ) → indices_noted new process ≡ indices_noted old process ++ (if r.process.0 == process then index ∷ [] else [])
  pub by_start : new.starts.items ≡ old.starts.items ++ (if is_starting r.op then index ∷ [] else [])

-- what a trace keeps
abbrev pub records_in : Inside → List Record
records_in trace = trace.records.items

-- records that can be those of a trace, and the tables of just these records
pub record IsWhole (trace : Inside) : Type 0 where
  pub records : AreRecords trace.records.items
  pub tables : Indexes trace.tables trace.records.items
