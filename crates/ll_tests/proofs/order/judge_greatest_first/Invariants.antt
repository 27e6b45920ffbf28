use Rattle.ll_trace.specs.Processes.{process_count}
use Rattle.ll_process.specs.Jobs.{processes_of, weight_of}
use Rattle.ll_pool.proofs.Sharing.{AreShared}
use Rattle.ll_tests.proofs.order.judge_greatest_first.Given as goal

abbrev pub invariant-loop-job : goal.invariant-loop-job
invariant-loop-job l = AreShared l.case l.keeper.jobs.items l.pieces.items

abbrev pub decreases-loop-job : goal.decreases-loop-job
decreases-loop-job l = weight_of (process_count l.case.records) (processes_of l.keeper.jobs.items)
