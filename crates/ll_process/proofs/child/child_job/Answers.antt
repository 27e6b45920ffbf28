-- The child's job keeps its type's own facts.
use Rattle.ll_process.proofs.OwnSteps.{child_there, child_begins}
use Rattle.ll_process.proofs.child.child_job.Goals as goal

pub invariant_of-result : goal.invariant_of-result
invariant_of-result c = record {
  there = child_there c.args.case.now c.args.index c.in-Some.child.0 c.in-Some.ensures.child;
  begins =
      child_begins c.args.case.now c.args.index c.args.process.0 c.in-Some.child.0 c.in_ok-own.own c.in-Some.ensures.case c.requires.own c.in-Some.ensures.child
      (c.in_ok-own.ensures c.args.case.now.tree c.args.case.now.layers _ c.requires.leaves);
}
