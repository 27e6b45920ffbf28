use Rattle.std.proofs.Common.{◌∙◌, sym, ap}
use Rattle.ll_trace.specs.declared.op.Record.{Record}
use Rattle.ll_trace.proofs.Seeing.{same_seen, seen_at}
use Rattle.ll_trace.proofs.seen.TakenTrace.recorded.Goals as goal

pub returns-clause-op : goal.returns-clause-op
returns-clause-op c = λ other r there.
    let item = c.index-records-index in
    let seen = seen_at c.self.inside.kernel.effort c.self.inside.kernel.abi c.self.inside.trace.now c.args.index item.result r _ _
    c.records.ensures.value c.self.view_is c.requires item.is there in
    ap (λ (one : Record). one.op) seen
    ∙ same_seen c.self.inside.kernel.effort c.self.inside.kernel.abi item.result.op other

pub returns-clause-process : goal.returns-clause-process
returns-clause-process c = λ r there.
    let seen = seen_at c.self.inside.kernel.effort c.self.inside.kernel.abi c.self.inside.trace.now c.args.index c.index-records-index.result r _ _
    c.records.ensures.value c.self.view_is c.requires c.index-records-index.is there in
    ap (λ (one : Record). one.process) (sym seen)
