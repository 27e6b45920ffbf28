use Rattle.std.proofs.Common.{◌≡◌, [], arith}
use Rattle.std.proofs.lemmas.Grind.{common_steps}
use Rattle.ll_pool.proofs.Sharing.{shared_first, shared_more, shared_all}
use Rattle.ll_pool.proofs.alone.pieces_of.Goals as goal

pub loop-job-init : goal.loop-job-init
loop-job-init c = rw c.new-pieces.ensures.items (shared_first c.args.case.now c.in_ok-jobs.jobs.items c.in_ok-jobs.ensures.of_case c.in_ok-jobs.ensures.roots)

pub loop-job-preserved : goal.loop-job-preserved
loop-job-preserved c =
    let more =
    shared_more c.args.case.now c.loop-job.jobs.items c.pop.new.self.items c.in-Some.job c.loop-job.pieces.items c.in_ok-piece.piece c.in-Some.ensures.items
    c.in_ok-piece.ensures.of_case c.in_ok-piece.ensures.shares_out c.loop-job.invariant in
    rw c.in_ok-push.ensures.items more

pub returns-clause-of_case : goal.returns-clause-of_case
returns-clause-of_case c = c.loop-job.invariant.pieces_of

pub returns-clause-shared : goal.returns-clause-shared
returns-clause-shared c =
    let none : c.loop-job.jobs.items ≡ [] = grind (arith, common_steps) in
    shared_all c.args.case.now c.loop-job.jobs.items c.loop-job.pieces.items none c.loop-job.invariant
