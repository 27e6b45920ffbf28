use Rattle.std.proofs.Common.{ℕ, ◌<◌, ◌≤◌, length}
use Rattle.std.specs.Prelude.{slice_index_or}
use Rattle.ll_process.specs.declared.job.Job.{Job}
use Rattle.ll_tests.proofs.keeper.greatest.Given as goal

abbrev pub invariant-loop-index : goal.invariant-loop-index
invariant-loop-index l = record {
  there : l.best < length l.jobs;
  so_far : (i : ℕ) (none : Job) → i < l.index → (slice_index_or l.jobs i none).process.0 ≤ (slice_index_or l.jobs l.best none).process.0;
}
