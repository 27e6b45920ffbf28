use Rattle.std.proofs.Common.{◌≡◌, ◌+◌}
use Rattle.std.specs.Prelude.{All, vec_len}
use Rattle.crossbeam_queue.specs.Passes.{view, IsPassOf}
use Rattle.ll_pool.proofs.workers.start.Given as goal

abbrev pub invariant-loop-started : goal.invariant-loop-started
invariant-loop-started g l = record {
  queue : IsPassOf l.pool.queue l.pass;
  given : (view l.pass).given ≡ (view l.fn.pass).given;
  taken : (view l.pass).taken ≡ (view l.fn.pass).taken;
  its_case : (view l.pass).case ≡ g.N.Naming.case;
  count : vec_len l.handles ≡ l._started;
  parts : (view l.pass).parts + vec_len l.handles ≡ (view l.fn.pass).parts;
  promised : All (λ handle. handle.promise.queue.now ≡ l.pool.queue) l.handles.items;
}
