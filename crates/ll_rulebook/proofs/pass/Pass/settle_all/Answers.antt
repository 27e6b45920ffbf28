use Rattle.std.proofs.Common.{inl, inr, arith}
use Rattle.std.proofs.lemmas.Option.{slice_get_cases}
use Rattle.ll_rulebook.proofs.Course.{has_table, settled_next}
use Rattle.ll_rulebook.proofs.pass.Pass.settle_all.Goals as goal

pub settle_next-requires-clause-there : goal.settle_next-requires-clause-there
settle_next-requires-clause-there c = λ r found other.
    has_table c.args.self.now.tree.now c.args.self.now.abi c.args.trace.now c.loop-index.index r c.loop-index.self
    c.loop-index.outcomes.items c.count-index-end.ensures.are_records found c.loop-index.invariant other

pub loop-index-preserved : goal.loop-index-preserved
loop-index-preserved c = elim ((slice_get_cases c.args.trace.now c.loop-index.index).1) [
  | inl found ↦
      let adds = c.in_ok-settle_next.ensures in
      rw adds.added (settled_next c.args.self.now.tree.now c.args.self.now.abi c.args.trace.now c.loop-index.index found.0
      c.loop-index.self c.settle_next.new.self c.loop-index.outcomes.items adds.outcome found.2 c.loop-index.invariant
      (adds.holds found.0 found.2))
  | inr past ↦ absurd (omega (arith, past.0, c.loop-index-test.true, c.count-index-end.ensures.count))
]
