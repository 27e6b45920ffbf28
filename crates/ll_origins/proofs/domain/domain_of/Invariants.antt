use Rattle.std.proofs.Common.{take}
use Rattle.ll_origins.proofs.Frozen.{AreOf}
use Rattle.ll_origins.proofs.domain.domain_of.Given as goal

-- the layers of the records before the next one are those
abbrev pub invariant-loop-index : goal.invariant-loop-index
invariant-loop-index l = AreOf l.case (take l.index-index l.trail.layers.items) l.ids.items
