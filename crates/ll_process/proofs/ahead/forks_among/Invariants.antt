use Rattle.std.proofs.Common.{◌≡◌, ◌<◌, ℕ, None, Some, slice_get}
use Rattle.ll_trace.specs.Processes.{forked_at}
use Rattle.ll_process.proofs.ahead.forks_among.Given as goal

abbrev pub invariant-loop-index : goal.invariant-loop-index
invariant-loop-index l = (at index : ℕ) → at < l.index-index → slice_get l.indices at ≡ Some index → forked_at l.case.records index ≡ None
