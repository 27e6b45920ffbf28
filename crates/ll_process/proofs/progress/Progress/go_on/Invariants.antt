use Rattle.std.proofs.Common.{◌≡◌}
use Rattle.ll_trace.specs.Processes.{own_records}
use Rattle.ll_process.specs.Jobs.{KeepsMore}
use Rattle.ll_process.specs.Progresses.{children_from}
use Rattle.ll_process.proofs.Going.{Going}
use Rattle.ll_process.proofs.progress.Progress.go_on.Given as goal

abbrev pub invariant-loop-next : goal.invariant-loop-next
invariant-loop-next g l = record {
  going : Going l.case l.process.0 l.next l.own l.answers.items (g.H.Hand.kept l.fn.hand) (g.H.Hand.kept l.hand)
      (children_from l.case.records l.process.0 l.fn.self.at);
  keeps : KeepsMore l.case.records (g.H.Hand.kept l.fn.hand) (g.H.Hand.kept l.hand);
  suits : g.H.Hand.suits l.hand l.case;
  ahead : l.ahead.case.now ≡ l.case;
  its : l.ahead.indices.now ≡ own_records l.case.records l.process.0;
  stays : (before : _) → g.H.Hand.stays before l.fn.hand → g.H.Hand.stays before l.hand;
}
