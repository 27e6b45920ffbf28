-- The changes cover the records before the index, and the trails are those before the record at the index.
use Rattle.ll_origins.specs.CaseTrails.{AreTrailsAt}
use Rattle.ll_findings.specs.Chunks.{Covers}
use Rattle.ll_findings.proofs.chunk.Chunk.compared.Given as goal

abbrev pub invariant-loop-index : goal.invariant-loop-index
invariant-loop-index l = record {
  covers : Covers l.fn.self.case.now l.base l.fn.self.from l.index l.changes;
  trails : AreTrailsAt l.fn.self.case.now l.index l.trails;
}
