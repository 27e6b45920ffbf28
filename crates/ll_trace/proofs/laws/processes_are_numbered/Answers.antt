use Rattle.std.proofs.Common.{Some, ap, sym, ◌∙◌}
use Rattle.std.proofs.lemmas.Option.{same_Some}
use Rattle.std.specs.Option.{option_flatten}
use Rattle.ll_trace.specs.declared.op.Record.{Record}
use Rattle.ll_trace.specs.Processes.{forked_by}
use Rattle.ll_trace.proofs.Numbering.{are_numbered}
use Rattle.ll_trace.proofs.Numbers.{parent_at, parent_below, start_of, started_at-from, started_at-is, started_once}
use Rattle.ll_trace.proofs.laws.processes_are_numbered.Goals as goal

pub returns-clause-numbered : goal.returns-clause-numbered
returns-clause-numbered c = are_numbered

pub returns-clause-each : goal.returns-clause-each
returns-clause-each c = λ records process below.
    let (index, one) = start_of records process below in
    (index, started_at-from records index one.of one.at one.kind ∙ ap (λ n. Some n) (sym one.number))

pub returns-clause-once : goal.returns-clause-once
returns-clause-once c = λ records index other process one two.
    started_once records index other process (started_at-is records index process one) (started_at-is records other process two)

pub returns-clause-forked : goal.returns-clause-forked
returns-clause-forked c = λ records index process said eq starts.
    let one = started_at-is records index process starts in
    ap option_flatten (parent_at records index process one) ∙ ap (λ (r : Record). forked_by r.op r.process) (same_Some one.of said (sym one.at ∙ eq))

pub returns-clause-parent : goal.returns-clause-parent
returns-clause-parent c = parent_below
