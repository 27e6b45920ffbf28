use Rattle.std.proofs.Common.{◌≡◌, ◌<◌, ◌+◌, ℕ, List}
use Rattle.std.specs.Prelude.{All}
use Rattle.std.specs.Vec.Iter.{into_iter_items, into_iter_len}
use Rattle.crossbeam_queue.specs.Passes.{view, IsPassOf}
use Rattle.ll_pool.specs.declared.queue.TheConstants.{PARTS}
use Rattle.ll_pool.specs.Accounts.{IsAccount}
use Rattle.ll_pool.proofs.workers.join_all.Given as goal

abbrev pub invariant-loop-handle : goal.invariant-loop-handle
invariant-loop-handle g l = record {
  queue : IsPassOf l.pool.queue l.done.pass;
  some_part : 0 < (view l.done.pass).parts;
  parts : (view l.done.pass).parts + into_iter_len l.left ≡ PARTS;
  promised : All (λ handle. handle.promise.queue.now ≡ l.pool.queue) (into_iter_items l.left);
  account : (roots : List ℕ) → IsAccount g.N.Naming.case roots (view l.fn.done.pass) l.fn.done.pieces.items
      → IsAccount g.N.Naming.case roots (view l.done.pass) l.done.pieces.items;
}

abbrev pub decreases-loop-handle : goal.decreases-loop-handle
decreases-loop-handle g l = into_iter_len l.left
