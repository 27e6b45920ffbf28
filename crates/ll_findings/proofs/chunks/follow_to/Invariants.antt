-- the trails are those before the record at the index
use Rattle.ll_origins.specs.CaseTrails.{AreTrailsAt}
use Rattle.ll_findings.proofs.chunks.follow_to.Given as goal

abbrev pub invariant-loop-index : goal.invariant-loop-index
invariant-loop-index l = AreTrailsAt l.case l.index l.trails
