use Rattle.std.proofs.Common.{◌∙◌, Some, sym, ap}
use Rattle.std.specs.Prelude.{slice_get}
use Rattle.ll_trace.specs.declared.op.Op.{Op}
use Rattle.ll_trace.proofs.Seeing.{item_at, record_seen}
use Rattle.ll_trace.proofs.seen.TakenTrace.record.Goals as goal

pub returns : goal.returns
returns c =
    let here = item_at c.self.inside.kernel.effort c.self.inside.kernel.abi c.self.inside.trace.now c.args.index c.index-records-index.result _ _
    c.records.ensures.value c.self.view_is c.requires c.index-records-index.is in
    ap (λ rs. slice_get rs c.args.index) (sym c.self.view_is)
    ∙ record_seen c.self.inside.kernel.effort c.self.inside.kernel.abi c.self.inside.trace.now c.args.index c.index-records-index.result here
    ∙ ap (λ (op : Op). Some (record c.index-records-index.result { op = op })) (sym c.at.ensures)
