-- A worker's account is whole before and after each job that it takes.
use Rattle.std.proofs.Common.{[], ◌∙◌, refl, sym, ap, subst, rules}
use Rattle.crossbeam_queue.specs.Passes.{view}
use Rattle.ll_pool.specs.declared.queue.Ledger.{Ledger}
use Rattle.ll_pool.specs.Accounts.{IsAccount}
use Rattle.ll_pool.proofs.Accounting.{account_begins, account_more}
use Rattle.ll_pool.proofs.hand.QueueHand.work.Goals as goal

pub loop-init : goal.loop-init
loop-init g c = record {
  pool = refl;
  queue = c.requires.queue;
  parts = ap (λ (u : Ledger). u.parts) c.requires.begins;
  few = search rules;
  account = account_begins g.N.Naming.case 1 (view c.args.self.pass) c.new-pieces.result.items c.requires.begins c.new-pieces.ensures.items;
}

pub loop-preserved-in-Continue-1 : goal.loop-preserved-in-Continue-1
loop-preserved-in-Continue-1 g c = record {
  pool = c.see_to-seen.ensures.pool ∙ c.loop.invariant.pool;
  queue = c.see_to-seen.ensures.queue;
  parts = c.see_to-seen.ensures.gave.parts ∙ ap (λ (u : Ledger). u.parts) c.in-Some-pop.ensures.takes.1 ∙ c.loop.invariant.parts;
  few = search rules;
  account =
      account_more g.N.Naming.case [] c.in-Some-pop.job.process.0 (view c.loop.self.pass) (view c.pop.new.pass) (view c.see_to-seen.new.self.pass)
      c.loop.pieces.items c.see_to-seen.new.pieces.items
      c.in-Some-pop.ensures.takes.1
      c.see_to-seen.ensures.gave
      c.in_ok-seen-in-Some-pop.ensures.seen
      c.loop.invariant.account;
}

pub loop-preserved : goal.loop-preserved
loop-preserved g c = record {
  pool = c.loop.invariant.pool;
  queue = rw c.loop.invariant.pool c.in-None-pop.ensures.queue;
  parts = ap (λ (u : Ledger). u.parts) c.in-None-pop.ensures.same ∙ c.loop.invariant.parts;
  few = c.if-looks-ge-LOOKS.false;
  account =
      subst (λ (u : Ledger). IsAccount g.N.Naming.case [] u c.loop.pieces.items) (sym c.in-None-pop.ensures.same) c.loop.invariant.account;
}
