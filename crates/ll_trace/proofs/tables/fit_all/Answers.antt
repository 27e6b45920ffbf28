use Rattle.std.proofs.Common.{◌∙◌, ap}
use Rattle.std.proofs.Math.Seq.{map-set_same}
use Rattle.ll_trace.proofs.tables.fit_all.Goals as goal

pub loop-process-preserved : goal.loop-process-preserved
loop-process-preserved c = record {
  same =
      map-set_same (λ one. one.items) c.loop-process.own.items c.loop-process.process c.shrink_to_fit.new.self _
      (c.shrink_to_fit.ensures.items ∙ ap (λ one. one.items) c.index_mut.ensures.value)
      ∙ c.loop-process.invariant.same;
}
