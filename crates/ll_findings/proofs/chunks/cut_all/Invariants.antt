-- The chunks that are cut off and the rest make the whole.
use Rattle.std.proofs.Common.{◌≡◌}
use Rattle.ll_findings.specs.Chunks.{AreChunks}
use Rattle.ll_findings.proofs.chunks.cut_all.Given as goal

abbrev pub invariant-loop : goal.invariant-loop
invariant-loop l = record {
  are : AreChunks l.fn.whole.case.now l.fn.whole.from l.rest.from l.chunks.items;
  case : l.rest.case.now ≡ l.fn.whole.case.now;
  end : l.rest.end ≡ l.fn.whole.end;
}
