use Rattle.std.proofs.Common.{vec_len}
use Rattle.ll_pool.proofs.Sharing.{AreShared}
use Rattle.ll_pool.proofs.alone.pieces_of.Given as goal

-- the jobs that are left and the pieces so far share the processes out
abbrev pub invariant-loop-job : goal.invariant-loop-job
invariant-loop-job l = AreShared l.case l.jobs.items l.pieces.items

abbrev pub decreases-loop-job : goal.decreases-loop-job
decreases-loop-job l = vec_len l.jobs
