-- One job more is taken and judged with nothing kept. A pass with all parts that finds no job knows that none is left.
use Rattle.std.proofs.Common.{◌≡◌, [], ap, ◌∙◌, subst, rules}
use Rattle.crossbeam_queue.specs.Passes.{view}
use Rattle.ll_process.specs.Cases.{CaseValue}
use Rattle.ll_trace.specs.Processes.{numbers}
use Rattle.ll_process.specs.Jobs.{SharesOut}
use Rattle.ll_pool.specs.declared.queue.Ledger.{Ledger}
use Rattle.ll_pool.proofs.Accounting.{gave_nothing, seen_unkept, account_more}
use Rattle.ll_pool.proofs.running.drain.Goals as goal

pub returns-in_default-clause-balanced : goal.returns-in_default-clause-balanced
returns-in_default-clause-balanced g c = search rules

pub loop-preserved : goal.loop-preserved
loop-preserved g c =
    let of_case : c.in-Some-pop.job.case.now ≡ g.N.Naming.case = c.in-Some-pop.ensures.takes.0 ∙ c.loop.invariant.its_case in
    record {
      queue = c.in-Some-pop.ensures.queue;
      whole = ap (λ (u : Ledger). u.parts) c.in-Some-pop.ensures.takes.1 ∙ c.loop.invariant.whole;
      its_case = ap (λ (u : Ledger). u.case) c.in-Some-pop.ensures.takes.1 ∙ c.loop.invariant.its_case;
      account = λ roots before.
          account_more g.N.Naming.case roots c.in-Some-pop.job.process.0 (view c.loop.pass) (view c.pop.new.pass)
          (view c.pop.new.pass) c.loop.pieces.items c.push.new.self.items
          c.in-Some-pop.ensures.takes.1
          (gave_nothing (view c.pop.new.pass))
          (seen_unkept g.N.Naming.case c.in-Some-pop.job.process.0 (view c.pop.new.pass).given c.loop.pieces.items c.push.new.self.items c.in_ok-piece.piece
          c.in_ok-push.ensures.items
          (c.in_ok-piece.ensures.of_case ∙ of_case)
          (subst (λ (m : CaseValue). SharesOut m.records c.in-Some-pop.job.process.0 (numbers c.in_ok-piece.piece.processes.items) [] []) of_case
          c.in_ok-piece.ensures.shares_out))
          (c.loop.invariant.account roots before);
    }
