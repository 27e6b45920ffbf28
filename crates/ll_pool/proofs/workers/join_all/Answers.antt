-- One worker more is joined.
use Rattle.std.proofs.Common.{◌≡◌, arith}
use Rattle.std.specs.Vec.Iter.{into_iter_items}
use Rattle.ll_pool.proofs.Accounting.{all_next}
use Rattle.ll_pool.proofs.workers.join_all.Goals as goal

pub join_one-requires-clause-promised : goal.join_one-requires-clause-promised
join_one-requires-clause-promised g c =
    (all_next c.in-Some.handle (into_iter_items c.loop-handle.left) (into_iter_items c.next.new.self)
    (λ handle. handle.promise.queue.now ≡ c.args.pool.now.queue) c.in-Some.ensures.cases.0 c.loop-handle.invariant.promised).0

pub loop-handle-preserved : goal.loop-handle-preserved
loop-handle-preserved g c = record {
  queue = c.in-Ok.ensures.queue;
  some_part = omega (arith, c.in-Ok.ensures.parts, c.loop-handle.invariant.some_part);
  parts = omega (arith, c.in-Ok.ensures.parts, c.loop-handle.invariant.parts, c.in-Some.ensures.cases.1);
  promised =
      (all_next c.in-Some.handle (into_iter_items c.loop-handle.left) (into_iter_items c.next.new.self)
      (λ handle. handle.promise.queue.now ≡ c.args.pool.now.queue) c.in-Some.ensures.cases.0 c.loop-handle.invariant.promised).1;
  account = λ roots before. c.in-Ok.ensures.account roots (c.loop-handle.invariant.account roots before);
}
