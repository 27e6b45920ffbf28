use Rattle.std.proofs.Common.{◌≡◌, ◌<◌, []}
use Rattle.crossbeam_queue.specs.Passes.{view, IsPassOf}
use Rattle.ll_pool.specs.declared.hand.TheConstants.{LOOKS}
use Rattle.ll_pool.specs.Accounts.{IsAccount}
use Rattle.ll_pool.proofs.hand.QueueHand.work.Given as goal

abbrev pub invariant-loop : goal.invariant-loop
invariant-loop g l = record {
  pool : l.self.pool ≡ l.fn.self.pool;
  queue : IsPassOf l.self.pool.now.queue l.self.pass;
  parts : (view l.self.pass).parts ≡ 1;
  few : l.looks < LOOKS;
  account : IsAccount g.N.Naming.case [] (view l.self.pass) l.pieces.items;
}
