use Rattle.std.proofs.Common.{refl}
use Rattle.ll_trace.specs.WorkedTraces.{faulty}
use Rattle.ll_trace.proofs.OnLiterals.{traces_on_literals}
use Rattle.ll_trace.proofs.WorkedRows.{faulty_rows}
use Rattle.ll_trace.proofs.rows.faulty_traces.Goals as goal

pub returns : goal.returns
unfolding traces_on_literals
returns c = faulty_rows faulty refl
