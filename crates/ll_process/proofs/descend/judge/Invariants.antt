use Rattle.std.proofs.Common.{◌≡◌}
use Rattle.ll_process.specs.Jobs.{KeepsMore}
use Rattle.ll_process.specs.Descending.{AreOf, Descended, work_of}
use Rattle.ll_process.proofs.descend.judge.Given as goal

abbrev pub invariant-loop-next : goal.invariant-loop-next
invariant-loop-next g l = record {
  descended : Descended l.fn.job.case.now l.fn.job.process l.done (g.H.Hand.kept l.fn.hand) (g.H.Hand.kept l.hand) l.stack.items;
  its : l.done.case.now ≡ l.fn.job.case.now;
  of_case : AreOf l.fn.job.case.now l.stack.items;
  keeps : KeepsMore l.fn.job.case.now.records (g.H.Hand.kept l.fn.hand) (g.H.Hand.kept l.hand);
  suits : g.H.Hand.suits l.hand l.fn.job.case.now;
  stays : (before : _) → g.H.Hand.stays before l.fn.hand → g.H.Hand.stays before l.hand;
}

abbrev pub decreases-loop-next : goal.decreases-loop-next
decreases-loop-next g l = work_of l.fn.job.case.now.records l.stack.items
