use Rattle.std.proofs.Common.{Ok, Err, length, sym, ap, arith}
use Rattle.ll_trace.proofs.Numbering.{few_processes}
use Rattle.ll_trace.proofs.TableLemmas.{start_found}
use Rattle.ll_trace.proofs.trace.Trace.starts.Goals as goal

pub overflow_cast-result : goal.overflow_cast-result
overflow_cast-result c = omega (
  arith,
  c.in-Ok.ensures.bound,
  ap length c.deref.ensures.value,
  c.self.invariant.tables.by_start.one_each,
  few_processes c.self.inside.records.items c.self.invariant.records,
)

pub returns-in-Ok : goal.returns-in-Ok
returns-in-Ok c =
    rw (← c.self.view_is)
    (sym (start_found c.self.inside.tables.starts.items c.self.inside.records.items c.args.index (Ok c.in-Ok.process) c.self.invariant.tables.by_start
    (rw c.deref.ensures.value at c.in-Ok.ensures.position)).1)

pub returns-in-Err : goal.returns-in-Err
returns-in-Err c =
    rw (← c.self.view_is)
    (sym (start_found c.self.inside.tables.starts.items c.self.inside.records.items c.args.index (Err c.in-Err.field-0) c.self.invariant.tables.by_start
    (rw c.deref.ensures.value at c.in-Err.ensures.position)))
