use Rattle.std.proofs.Common.{◌≡◌, length}
use Rattle.ll_trace.specs.Processes.{process_count}
use Rattle.ll_process.proofs.sizes.sizes_of.Given as goal

abbrev pub invariant-loop-process : goal.invariant-loop-process
invariant-loop-process l = length l.sizes.items ≡ l.process

abbrev pub invariant-loop-after : goal.invariant-loop-after
invariant-loop-after l = length l.sizes.items ≡ process_count l.trace
