-- A job is judged, and what the hand gave is what the pass gave.
use Rattle.std.proofs.Common.{refl, subst, ◌∙◌}
use Rattle.crossbeam_queue.specs.Passes.{view}
use Rattle.ll_process.specs.Cases.{CaseValue}
use Rattle.ll_trace.specs.Processes.{numbers}
use Rattle.ll_process.specs.Jobs.{SharesOut}
use Rattle.ll_pool.proofs.Accounting.{gave_nothing, seen_judged}
use Rattle.ll_pool.proofs.hand.QueueHand.see_to.Goals as goal

pub returns-in_err-piece-clause-pool : goal.returns-in_err-piece-clause-pool
returns-in_err-piece-clause-pool g c = (c.judge.ensures.stays c.args.self.now (refl, gave_nothing (view c.args.self.now.pass))).0

pub returns-in_err-piece-clause-gave : goal.returns-in_err-piece-clause-gave
returns-in_err-piece-clause-gave g c = (c.judge.ensures.stays c.args.self.now (refl, gave_nothing (view c.args.self.now.pass))).1

pub returns-clause-pool : goal.returns-clause-pool
returns-clause-pool g c = (c.judge.ensures.stays c.args.self.now (refl, gave_nothing (view c.args.self.now.pass))).0

pub returns-clause-gave : goal.returns-clause-gave
returns-clause-gave g c = (c.judge.ensures.stays c.args.self.now (refl, gave_nothing (view c.args.self.now.pass))).1

pub returns-clause-seen : goal.returns-clause-seen
returns-clause-seen g c =
    seen_judged g.N.Naming.case c.args.job.process.0 (view c.args.self.now.pass).given
    (view c.judge.new.hand.pass).given c.args.pieces.now.items c.push.new.self.items c.in_ok-piece.piece
    c.in_ok-push.ensures.items
    (c.in_ok-piece.ensures.of_case ∙ c.requires.of_case)
    (subst (λ (m : CaseValue). SharesOut m.records c.args.job.process.0 (numbers c.in_ok-piece.piece.processes.items) (view c.args.self.now.pass).given
    (view c.judge.new.hand.pass).given) c.requires.of_case c.in_ok-piece.ensures.shares_out)

pub returns-in_err-push-clause-pool : goal.returns-in_err-push-clause-pool
returns-in_err-push-clause-pool g c = (c.judge.ensures.stays c.args.self.now (refl, gave_nothing (view c.args.self.now.pass))).0

pub returns-in_err-push-clause-gave : goal.returns-in_err-push-clause-gave
returns-in_err-push-clause-gave g c = (c.judge.ensures.stays c.args.self.now (refl, gave_nothing (view c.args.self.now.pass))).1
