use Rattle.std.proofs.Common.{◌≡◌}
use Rattle.ll_trace.specs.Traces.{lists}
use Rattle.ll_trace.proofs.tables.fit_all.Given as goal

-- the lists are as they were
abbrev pub invariant-loop-process : goal.invariant-loop-process
invariant-loop-process l = record { same : lists l.own.items ≡ lists l.fn.own.items }
