-- The trace's processes are numbered, and the rulebook is that of the trace as it is seen.
use Rattle.std.proofs.Common.{List, ℕ, subst}
use Rattle.ll_rules.specs.Layers.{RulesOn}
use Rattle.ll_rules.specs.Grants.{AreGrants}
use Rattle.ll_trace.specs.declared.op.Record.{Record}
use Rattle.ll_trace.specs.Processes.{IsNumbered}
use Rattle.ll_rulebook.specs.Settled.{IsSettled}
use Rattle.ll_process.proofs.settled.Settled.of.Goals as goal

pub returns-clause-case : goal.returns-clause-case
returns-clause-case c = record {
  numbered = subst IsNumbered c.of-trace.ensures c.count-count.ensures.are_records.numbered;
  settled =
      subst (λ (records : List Record). IsSettled c.args.located.now.tree c.args.kernel.abi records c.in_ok-book.book.layers.items
      c.in_ok-book.book.outcomes.items) c.of-trace.ensures c.in_ok-book.ensures;
  granted = subst (λ (layers : List (RulesOn ℕ)). AreGrants c.args.located.now.tree layers c.in_ok-grants.grants.items) c.deref.ensures.value
      c.in_ok-grants.ensures;
}
