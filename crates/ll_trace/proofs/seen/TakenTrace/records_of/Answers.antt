use Rattle.std.proofs.Common.{◌∙◌, sym, ap}
use Rattle.ll_trace.specs.Processes.{own_records}
use Rattle.ll_trace.proofs.Seeing.{as_many, count_seen, own_seen}
use Rattle.ll_trace.proofs.seen.TakenTrace.records_of.Goals as goal

pub records_of-requires : goal.records_of-requires
records_of-requires c = rw (← count_seen c.self.inside.kernel.effort c.self.inside.kernel.abi c.self.inside.trace.now, c.self.view_is) c.requires

pub returns-clause-value : goal.returns-clause-value
returns-clause-value c =
    c.records_of.ensures.value ∙ sym (own_seen c.self.inside.kernel.effort c.self.inside.kernel.abi c.self.inside.trace.now c.args.process.0)
    ∙ ap (λ records. own_records records c.args.process.0) c.self.view_is

pub returns-clause-within : goal.returns-clause-within
returns-clause-within c =
    rw (← c.self.view_is, as_many c.self.inside.kernel.effort c.self.inside.kernel.abi c.self.inside.trace.now) c.records_of.ensures.within
