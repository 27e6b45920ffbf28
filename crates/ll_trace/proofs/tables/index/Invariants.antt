use Rattle.std.proofs.Common.{take}
use Rattle.ll_trace.specs.Traces.{Indexes}
use Rattle.ll_trace.proofs.tables.index.Given as goal

abbrev pub invariant-loop-index : goal.invariant-loop-index
invariant-loop-index l = Indexes l.tables (take l.index l.records)
