-- The records that are kept are those of the trace.
use Rattle.std.proofs.Common.{◌∙◌}
use Rattle.ll_trace.proofs.Numbering.{few_records}
use Rattle.ll_trace.proofs.trace.Trace.records.Goals as goal

pub returns-clause-value : goal.returns-clause-value
returns-clause-value c = c.as_slice.ensures.value ∙ c.self.view_is

pub returns-clause-few : goal.returns-clause-few
returns-clause-few c = rw (← c.self.view_is) (few_records c.self.inside.records.items c.self.invariant.records)

pub returns-clause-are_records : goal.returns-clause-are_records
returns-clause-are_records c = rw (← c.self.view_is) c.self.invariant.records
