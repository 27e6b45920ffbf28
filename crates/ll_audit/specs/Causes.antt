-- Why a part of an audit gives nothing: a file that doesn't read, or being out of memory or threads.
-- Source: docs/FORMATS.md, "Faults of a run".
use Rattle.std.specs.Prelude.{◌≡◌, ◌⊎◌, ℕ, List}
use Rattle.ll_lines.specs.Reading.{IsBad}
use Rattle.ll_tree.specs.TreeReading.{tree_format}
use Rattle.ll_trace.specs.Entries.{trace_file}
use Rattle.ll_pool.specs.declared.workers.PoolFault.{PoolFault}
use Rattle.ll_pool.specs.declared.workers.PoolFault.TheVariants as pool
use Rattle.ll_audit.specs.declared.fault.Fault.{Fault}
use Rattle.ll_audit.specs.declared.fault.Fault.TheVariants as fault

-- a reader's answer for bytes that don't read
abbrev pub IsTreeFault : List ℕ → Fault → Type 0
IsTreeFault bytes (fault.Tree one) = IsBad tree_format bytes one
IsTreeFault bytes fault.Memory = Unit {0}
IsTreeFault bytes _ = ⊥

abbrev pub IsTraceFault : List ℕ → Fault → Type 0
IsTraceFault bytes (fault.Trace one) = IsBad trace_file bytes one
IsTraceFault bytes fault.Memory = Unit {0}
IsTraceFault bytes _ = ⊥

-- what a fault of the pool comes to
abbrev pub fault_of_pool : PoolFault → Fault
fault_of_pool pool.Memory = fault.Memory
fault_of_pool pool.NoThread = fault.NoThread

-- memory has run out, or a thread is missing
abbrev pub IsOutOfMemoryOrThreads : Fault → Type 0
IsOutOfMemoryOrThreads one = (one ≡ fault.Memory) ⊎ (one ≡ fault.NoThread)
