use Rattle.std.proofs.Common.{◌≡◌, map}
use Rattle.std.specs.List.{range_with_len}
use Rattle.ll_trace.specs.FirstPlaces.{own_of}
use Rattle.ll_trace.proofs.located.by_process.Given as goal

-- those of the processes so far
abbrev pub invariant-loop-process : goal.invariant-loop-process
invariant-loop-process l = map (λ own. own.items) l.all.items ≡ map (own_of l.places l.trace) (range_with_len 0 l.process)
