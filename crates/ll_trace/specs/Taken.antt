-- Records as a program makes them under a kernel.
-- Source: landlock(7), "VERSIONS".
use Rattle.std.specs.Prelude.{List}
use Rattle.ll_rights.specs.declared.abi.Abi.{Abi}
use Rattle.ll_trace.specs.declared.op.Op.{Op}
use Rattle.ll_trace.specs.declared.op.Record.{Record}
use Rattle.ll_trace.specs.declared.trace.Effort.{Effort}
use Rattle.ll_trace.specs.declared.trace.Effort.TheVariants.{AsRecorded, Best}
use Rattle.ll_trace.specs.declared.seen.Kernel.{Kernel}
use Rattle.ll_trace.specs.BestEffort.{at_best_effort, records_at_best_effort}

unfoldable pub by_effort : Effort → Abi → Op → Op
by_effort AsRecorded abi op = op
by_effort Best abi op = at_best_effort abi op

-- what a program calls under a kernel where a record has this
abbrev pub taken : Kernel → Op → Op
taken kernel op = by_effort kernel.effort kernel.abi op

-- the same of all records
abbrev pub records_by : Effort → Abi → List Record → List Record
records_by AsRecorded abi records = records
records_by Best abi records = records_at_best_effort abi records

abbrev pub records_taken : Kernel → List Record → List Record
records_taken kernel records = records_by kernel.effort kernel.abi records
