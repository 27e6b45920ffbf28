use Rattle.ll_trace.proofs.TableLemmas.{indices_read}
use Rattle.ll_trace.proofs.trace.Trace.records_of.Goals as goal

pub returns-clause-value : goal.returns-clause-value
returns-clause-value c =
    rw (← c.self.view_is) (indices_read c.self.inside.tables c.self.inside.records.items c.args.process.0 c.index-own.result.now c.as_slice.result.now
    c.self.invariant.tables (rw c.self.view_is c.requires) c.index-own.ensures c.as_slice.ensures.value).0

pub returns-clause-within : goal.returns-clause-within
returns-clause-within c =
    rw (← c.self.view_is) (indices_read c.self.inside.tables c.self.inside.records.items c.args.process.0 c.index-own.result.now c.as_slice.result.now
    c.self.invariant.tables (rw c.self.view_is c.requires) c.index-own.ensures c.as_slice.ensures.value).1
