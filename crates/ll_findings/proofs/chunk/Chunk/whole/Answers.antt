use Rattle.std.proofs.Common.{arith}
use Rattle.ll_origins.proofs.AtIndices.{begins_at}
use Rattle.ll_findings.proofs.chunk.Chunk.whole.Goals as goal

pub invariant_of-result : goal.invariant_of-result
invariant_of-result c = record {
  judged = c.requires;
  rises = omega arith;
  within = omega arith;
  begins = begins_at c.args.case.now c.new.result c.new.ensures;
}
