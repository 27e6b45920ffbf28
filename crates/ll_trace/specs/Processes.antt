-- The processes of a trace: which record starts each, which records are its own, and whose children they are. They are numbered in the order in which they are started.
-- Source: docs/FORMATS.md, "The trace file".
use Rattle.std.specs.Prelude.{◌≡◌, ℕ, ◌+◌, ◌<◌, ◌==◌, Bool, true, false, List, [], ◌∷◌, take, map, count_by, filter, Option, Some, None, slice_get, if◌then◌else◌}
use Rattle.std.specs.List.{filter_map, flat_map}
use Rattle.std.specs.Option.{option_flatten}
use Rattle.ll_trace.specs.declared.op.Record.{Record}
use Rattle.ll_trace.specs.declared.op.ProcessId.{ProcessId}
use Rattle.ll_trace.specs.declared.op.Op.{Op}
use Rattle.ll_trace.specs.declared.op.Op.TheVariants.{Start, Fork}
unfoldable pub use Rattle.ll_trace.specs.Entries.{is_start}

-- the call forks a child
unfoldable pub is_fork : Op → Bool
is_fork (Fork child) = true
is_fork op = false

-- the call starts a process
unfoldable pub is_starting : Op → Bool
is_starting (Start nnp admin) = true
is_starting (Fork child) = true
is_starting op = false

-- how many processes the records start
unfoldable pub process_count : List Record → ℕ
process_count records = count_by (λ r. is_starting r.op) records

-- how many processes are started before record k, if its call is of a kind
unfoldable pub number_if : (Op → Bool) → List Record → ℕ → Option Record → Option ℕ
number_if is_kind records k None = None
number_if is_kind records k (Some r) = if is_kind r.op then Some (process_count (take k records)) else None

-- the number of the process that record k starts
unfoldable pub started_at : List Record → ℕ → Option ℕ
started_at records k = number_if is_starting records k (slice_get records k)

-- A start record belongs to the process that it starts, every other record to a process that was started before it.
pub record IsNumbered (records : List Record) : Type 0 where
  pub begins : (k : ℕ) (r : Record) → slice_get records k ≡ Some r → is_start r.op ≡ true → r.process.0 ≡ process_count (take k records)
  pub goes_on : (k : ℕ) (r : Record) → slice_get records k ≡ Some r → is_start r.op ≡ false → r.process.0 < process_count (take k records)

-- the indices of a process's own records, from a first index on
unfoldable pub own_from : ℕ → ℕ → List Record → List ℕ
own_from process k [] = []
own_from process k (r ∷ rs) = if r.process.0 == process then k ∷ own_from process (k + 1) rs else own_from process (k + 1) rs

unfoldable pub own_records : List Record → ℕ → List ℕ
own_records records process = own_from process 0 records

-- the child that record k forks
unfoldable pub forked_at : List Record → ℕ → Option ℕ
forked_at records k = number_if is_fork records k (slice_get records k)

-- the children of a process, in the order of its fork records
unfoldable pub children : List Record → ℕ → List ℕ
children records process = filter_map (forked_at records) (own_records records process)

-- the children of all members of a list, each as often as its parent is in it
unfoldable pub kids : List Record → List ℕ → List ℕ
kids records processes = flat_map (children records) processes

-- the process that a start record begins
unfoldable pub root_of : Option Record → Option ℕ
root_of None = None
root_of (Some r) = if is_start r.op then Some r.process.0 else None

abbrev pub root_at : List Record → ℕ → Option ℕ
root_at records k = root_of (slice_get records k)

-- the processes of start records
unfoldable pub roots : List Record → List ℕ
roots records = map (λ r. r.process.0) (filter (λ r. is_start r.op) records)

-- the parent of the process that a call starts: a fork's is the process that forks, and a start has none
unfoldable pub forked_by : Op → ProcessId → Option ProcessId
forked_by (Fork child) own = Some own
forked_by op own = None

-- the parents of all processes, in the order of the processes' numbers
unfoldable pub parents : List Record → List (Option ProcessId)
parents [] = []
parents (r ∷ rs) = if is_starting r.op then forked_by r.op r.process ∷ parents rs else parents rs

-- the parent of a process, where it has one
abbrev pub parent_of : List Record → ℕ → Option ProcessId
parent_of records process = option_flatten (slice_get (parents records) process)

-- how often a process is in a list
unfoldable pub times : ℕ → List ℕ → ℕ
times process processes = count_by (λ other. other == process) processes

-- the numbers of processes
abbrev pub numbers : List ProcessId → List ℕ
numbers processes = map (λ process. process.0) processes
