use Rattle.std.proofs.Common.{refl}
use Rattle.ll_trace.specs.WorkedTraces.{whole}
use Rattle.ll_trace.proofs.OnLiterals.{traces_on_literals}
use Rattle.ll_trace.proofs.WorkedRows.{whole_rows}
use Rattle.ll_trace.proofs.rows.whole_traces.Goals as goal

pub returns : goal.returns
unfolding traces_on_literals
returns c = whole_rows whole refl refl
