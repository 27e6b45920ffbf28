-- The entries of a trace file: which of them start or end a process, which pid is live, and which entry is at fault by those before it.
-- Source: docs/FORMATS.md, "The trace file".
use Rattle.std.specs.Prelude.{ℕ, ◌+◌, ◌==◌, ◌&&◌, ◌||◌, Bool, true, false, not, nat_le, List, [], ◌∷◌, length, reverse, Option, Some, None, is_some, codes, Result, Ok, if◌then◌else◌}
use Rattle.std.specs.Option.{option_map_or}
use Rattle.ll_lines.specs.declared.fault.Cause.{Cause}
use Rattle.ll_lines.specs.declared.fault.Cause.TheVariants.{Twice, TooMany, UnknownProcess}
use Rattle.ll_lines.specs.Members.{value_at, number_at, ◌>>=◌}
use Rattle.ll_lines.specs.Lines.{Line}
use Rattle.ll_lines.specs.Reading.{Format}
use Rattle.ll_trace.specs.declared.reader.TheConstants.{MOST_PROCESSES, MOST_RECORDS}
use Rattle.ll_trace.specs.declared.op.Op.{Op}
use Rattle.ll_trace.specs.declared.op.Op.TheVariants.{Start, Fork, Exit}
use Rattle.ll_trace.specs.Operations.{operation_at}

-- what a line says: its number, the pid of its record, and the operation
pub record Entry : Type 0 where
  pub line : ℕ
  pub pid : ℕ
  pub op : Op

unfoldable pub entry_at : Line → Result Entry Cause
entry_at line = do
  value ← value_at line.bytes
  pid ← number_at (codes "pid") value
  op ← operation_at value
  Ok (record { line = line.number; pid = pid; op = op })

unfoldable pub is_start : Op → Bool
is_start (Start nnp admin) = true
is_start _ = false

-- the pid of the process that an operation of this pid starts
unfoldable pub pid_started : Op → ℕ → Option ℕ
pid_started (Start nnp admin) pid = Some pid
pid_started (Fork child) pid = Some child
pid_started _ pid = None

-- the pid of the process that an entry starts
abbrev pub started_pid : Entry → Option ℕ
started_pid entry = pid_started entry.op entry.pid

-- whether an entry starts a process under a pid
abbrev pub is_start_of : ℕ → Entry → Bool
is_start_of pid entry = option_map_or (λ started. started == pid) (started_pid entry) false

unfoldable pub is_exit : Op → Bool
is_exit Exit = true
is_exit _ = false

-- whether an entry ends the process that has a pid
abbrev pub is_end_of : ℕ → Entry → Bool
is_end_of pid entry = is_exit entry.op && entry.pid == pid

-- Below, the past are the earlier entries, the latest first.

-- whether a pid is live: the latest entry that starts or ends a process of this pid starts one
abbrev pub is_live : List Entry → ℕ → Bool
is_live [] pid = false
is_live (entry ∷ past) pid = if is_start_of pid entry then true else (if is_end_of pid entry then false else is_live past pid)

-- how many processes the entries start
abbrev pub process_count : List Entry → ℕ
process_count [] = 0
process_count (entry ∷ others) = if is_some (started_pid entry) then process_count others + 1 else process_count others

-- the process that a pid names: that of the latest entry which starts one under this pid. Processes are numbered in the order in which they are started.
abbrev pub process_named : List Entry → ℕ → Option ℕ
process_named [] pid = None
process_named (entry ∷ past) pid = if is_start_of pid entry then Some (process_count past) else process_named past pid

-- an entry of a pid that is not live, other than a start
abbrev pub is_unknown : List Entry → Entry → Bool
is_unknown past entry = not (is_start entry.op) && not (is_live past entry.pid)

-- an entry that starts a process under a pid that is live
abbrev pub is_twice : List Entry → Entry → Bool
is_twice past entry = option_map_or (is_live past) (started_pid entry) false

-- the 1,000,001st entry, or one that starts the 65,537th process
abbrev pub is_too_many : List Entry → Entry → Bool
is_too_many past entry = nat_le MOST_RECORDS (length past) || (is_some (started_pid entry) && nat_le MOST_PROCESSES (process_count past))

-- why an entry is at fault, by the entries before it: the first cause, if there is one; this rule tells of a pid that is used twice
abbrev pub entry_fault_by : (List Entry → Entry → Bool) → List Entry → Entry → Option Cause
entry_fault_by is_twice past entry =
    if is_unknown past entry then Some UnknownProcess else (
    if is_twice past entry then Some Twice else (
    if is_too_many past entry then Some TooMany else None))

abbrev pub entry_fault : List Entry → Entry → Option Cause
entry_fault past entry = entry_fault_by is_twice past entry

-- the trace file
abbrev pub trace_file : Format Entry
trace_file = record { entry_of_line = entry_at; fault_after = λ earlier entry. entry_fault (reverse earlier) entry }
