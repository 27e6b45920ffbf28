use Rattle.std.proofs.Common.{◌≡◌, ◌<◌}
use Rattle.std.specs.Vec.Iter.{into_iter_items}
use Rattle.crossbeam_queue.specs.Passes.{view, IsPassOf}
use Rattle.ll_process.specs.Jobs.{processes_of}
use Rattle.ll_pool.specs.Accounts.{OnlyGave}
use Rattle.ll_pool.proofs.Accounting.{Halfway}
use Rattle.ll_pool.proofs.hand.QueueHand.hand_out_all.Given as goal

abbrev pub invariant-loop-root : goal.invariant-loop-root
invariant-loop-root g l = record {
  pool : l.self.pool ≡ l.fn.self.pool;
  queue : IsPassOf l.self.pool.now.queue l.self.pass;
  some_part : 0 < (view l.self.pass).parts;
  gave : OnlyGave (view l.fn.self.pass) (view l.self.pass);
  halfway : Halfway g.N.Naming.case (processes_of l.fn.roots.items) (into_iter_items l.root-iterator) (view l.fn.self.pass).given
      (view l.self.pass).given l.fn.pieces.items l.pieces.items;
}
