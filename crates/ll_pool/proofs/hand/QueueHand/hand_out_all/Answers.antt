-- Each root is handed out, and those that were are seen to.
use Rattle.std.proofs.Common.{◌≡◌, refl, ◌∙◌, arith}
use Rattle.std.specs.Vec.Iter.{into_iter_items}
use Rattle.crossbeam_queue.specs.Passes.{view}
use Rattle.ll_process.specs.Jobs.{processes_of}
use Rattle.ll_process.specs.declared.job.Job.{Job}
use Rattle.ll_pool.proofs.Accounting.{gave_nothing, gave_more, some_part_still, halfway_first, halfway_more, halfway_all, all_next, nothing_left}
use Rattle.ll_pool.proofs.hand.QueueHand.hand_out_all.Goals as goal

pub loop-root-init : goal.loop-root-init
loop-root-init g c = record {
  pool = refl;
  queue = c.requires.queue;
  some_part = c.requires.parts;
  gave = gave_nothing (view c.args.self.now.pass);
  halfway = halfway_first g.N.Naming.case c.args.roots.items _ (view c.args.self.now.pass).given c.args.pieces.now.items c.requires.of_case
      c.into_iter-root-iterator.ensures.into_iter_gives.0;
}

pub hand_out-requires-clause-of_case : goal.hand_out-requires-clause-of_case
hand_out-requires-clause-of_case g c =
    (all_next c.in-Some.root (into_iter_items c.loop-root.root-iterator) (into_iter_items c.next.new.self) (λ (job : Job). job.case.now ≡ g.N.Naming.case)
    c.in-Some.ensures.steps.0 c.loop-root.invariant.halfway.left_of).0

pub loop-root-preserved : goal.loop-root-preserved
loop-root-preserved g c = record {
  pool = c.hand_out.ensures.pool ∙ c.loop-root.invariant.pool;
  queue = c.hand_out.ensures.queue;
  some_part = some_part_still (view c.loop-root.self.pass) (view c.hand_out.new.self.pass) c.hand_out.ensures.gave c.loop-root.invariant.some_part;
  gave = gave_more (view c.args.self.now.pass) (view c.loop-root.self.pass) (view c.hand_out.new.self.pass) c.loop-root.invariant.gave c.hand_out.ensures.gave;
  halfway =
      halfway_more g.N.Naming.case (processes_of c.args.roots.items) (into_iter_items c.loop-root.root-iterator)
      (into_iter_items c.next.new.self) c.in-Some.root
      (view c.args.self.now.pass).given (view c.loop-root.self.pass).given (view c.hand_out.new.self.pass).given
      c.args.pieces.now.items c.loop-root.pieces.items c.hand_out.new.pieces.items
      c.in-Some.ensures.steps.0 c.in_ok-hand_out.ensures.seen c.loop-root.invariant.halfway;
}

pub returns-in_err-hand_out-clause-pool : goal.returns-in_err-hand_out-clause-pool
returns-in_err-hand_out-clause-pool g c = c.hand_out.ensures.pool ∙ c.loop-root.invariant.pool

pub returns-in_err-hand_out-clause-gave : goal.returns-in_err-hand_out-clause-gave
returns-in_err-hand_out-clause-gave g c =
    gave_more (view c.args.self.now.pass) (view c.loop-root.self.pass) (view c.hand_out.new.self.pass) c.loop-root.invariant.gave c.hand_out.ensures.gave

pub returns-clause-seen : goal.returns-clause-seen
returns-clause-seen g c =
    halfway_all g.N.Naming.case (processes_of c.args.roots.items) (into_iter_items c.loop-root.root-iterator) (view c.args.self.now.pass).given
    (view c.loop-root.self.pass).given c.args.pieces.now.items c.loop-root.pieces.items
    (nothing_left (into_iter_items c.loop-root.root-iterator) (omega (arith, c.in-None.ensures.steps.0, c.loop-root.root-iterator.rest.ok.0)))
    c.loop-root.invariant.halfway
