use Rattle.std.proofs.Common.{ℕ, List, map}
use Rattle.ll_trace.specs.declared.op.Record.{Record}
use Rattle.ll_trace.specs.Records.{entry_of, IsTrace}
use Rattle.ll_trace.specs.SingleUse.{IsStrictTrace}
use Rattle.ll_trace.proofs.LawLemmas.{strict_is_good}
use Rattle.ll_trace.proofs.laws.traces_of_single_pids.Goals as goal

trace_by_strict : (bytes : List ℕ) (records : List Record) → IsStrictTrace bytes records → IsTrace bytes records
trace_by_strict bytes records strict = record { reads = strict_is_good bytes (map entry_of records) strict.reads; processes = strict.processes }

pub returns : goal.returns
returns c = λ bytes records strict. trace_by_strict bytes records strict
