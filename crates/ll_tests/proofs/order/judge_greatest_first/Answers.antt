-- The roots are held at first; a job is taken out and judged; at the end none is held.
use Rattle.std.proofs.Common.{◌≡◌, ◌++◌, ◌∷◌, [], arith, sym, subst, refl}
use Rattle.std.proofs.lemmas.Grind.{common_steps}
use Rattle.ll_process.specs.Jobs.{AreJobsOf}
use Rattle.ll_pool.proofs.Sharing.{shared_first}
use Rattle.ll_tests.proofs.Ordering.{judged_more, judged_all, taken_out, weighs_less}
use Rattle.ll_tests.proofs.order.judge_greatest_first.Goals as goal

pub loop-job-init : goal.loop-job-init
loop-job-init c = rw c.new-pieces.ensures.items (shared_first c.args.case.now c.in_ok-jobs.jobs.items c.in_ok-jobs.ensures.of_case c.in_ok-jobs.ensures.roots)

pub judge-requires : goal.judge-requires
judge-requires c κs =
    let out =
    taken_out c.args.case.now c.loop-job.keeper.jobs.items c.take_greatest.new.self.jobs.items c.in-Some.job c.in-Some.ensures.taken
    c.loop-job.invariant.jobs_of in
    ((refl, tt), subst (λ cv. AreJobsOf cv c.take_greatest.new.self.jobs.items) (sym out.its_case) out.rest_of)

pub loop-job-smaller : goal.loop-job-smaller
loop-job-smaller c =
    weighs_less c.args.case.now c.loop-job.keeper.jobs.items c.take_greatest.new.self.jobs.items c.judge.new.hand.jobs.items c.in-Some.job c.in_ok-piece.piece
    c.in_ok-jobs.ensures.numbered c.in-Some.ensures.taken c.loop-job.invariant.jobs_of c.in_ok-piece.ensures.first c.in_ok-piece.ensures.shares_out

pub loop-job-preserved : goal.loop-job-preserved
loop-job-preserved c =
    let items : c.push.new.self.items ≡ c.loop-job.pieces.items ++ c.in_ok-piece.piece ∷ [] = grind (arith, common_steps) in
    rw items
    (judged_more c.args.case.now c.loop-job.keeper.jobs.items c.take_greatest.new.self.jobs.items c.judge.new.hand.jobs.items c.in-Some.job
    c.loop-job.pieces.items c.in_ok-piece.piece
    c.in-Some.ensures.taken c.in_ok-piece.ensures.of_case c.in_ok-piece.ensures.suits c.in_ok-piece.ensures.shares_out c.loop-job.invariant)

pub returns-clause-each_once : goal.returns-clause-each_once
returns-clause-each_once c =
    judged_all c.args.case.now c.loop-job.keeper.jobs.items c.loop-job.pieces.items c.in_ok-jobs.ensures.numbered c.in_default.ensures.none c.loop-job.invariant
