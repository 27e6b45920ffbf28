use Rattle.std.proofs.Common.{take}
use Rattle.ll_reasons.specs.Objections.{objecting_from}
use Rattle.ll_explanations.specs.Asking.{objected}
use Rattle.ll_explanations.specs.Confined.{stacked}
use Rattle.ll_explanations.proofs.Adding.{AreUpto}
use Rattle.ll_explanations.proofs.asked.objections_of.Given as goal

-- what the layers before the next one object to is noted
abbrev pub invariant-loop-index : goal.invariant-loop-index
invariant-loop-index l =
    AreUpto l.ctx.tree.now l.ctx.trail.now.layers.items l.index l.all.items (objecting_from (objected l.ctx.tree.now l.asked) 1 (take l.index (stacked l.ctx)))
