use Rattle.std.proofs.Common.{◌≡◌, ℕ, List}
use Rattle.crossbeam_queue.specs.Passes.{view, IsPassOf}
use Rattle.ll_pool.specs.declared.queue.TheConstants.{PARTS}
use Rattle.ll_pool.specs.Accounts.{IsAccount}
use Rattle.ll_pool.proofs.running.drain.Given as goal

abbrev pub invariant-loop : goal.invariant-loop
invariant-loop g l = record {
  queue : IsPassOf l.pool.queue l.pass;
  whole : (view l.pass).parts ≡ PARTS;
  its_case : (view l.pass).case ≡ g.N.Naming.case;
  account : (roots : List ℕ) → IsAccount g.N.Naming.case roots (view l.fn.pass) l.fn.pieces.items
      → IsAccount g.N.Naming.case roots (view l.pass) l.pieces.items;
}
