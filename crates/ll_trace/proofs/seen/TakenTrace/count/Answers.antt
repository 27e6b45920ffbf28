use Rattle.ll_trace.proofs.Seeing.{still_records}
use Rattle.ll_trace.proofs.seen.TakenTrace.count.Goals as goal

pub returns-clause-are_records : goal.returns-clause-are_records
returns-clause-are_records c =
    rw (← c.self.view_is) (still_records c.self.inside.kernel.effort c.self.inside.kernel.abi c.self.inside.trace.now c.records.ensures.are_records)
