-- The changes that are joined and the parts that are left make the whole.
use Rattle.std.proofs.Common.{ℕ, List}
use Rattle.std.specs.List.{AllZip}
use Rattle.std.specs.Vec.Iter.{into_iter_items}
use Rattle.ll_process.specs.Cases.{CaseValue}
use Rattle.ll_findings.specs.Findings.{FindingValue}
use Rattle.ll_findings.specs.Chunks.{AreChunks, IsCompared}
use Rattle.ll_findings.specs.declared.chunk.Chunk.{Chunk}
use Rattle.ll_findings.proofs.Covering.{JoinsChanges}
use Rattle.ll_findings.proofs.comparing.join_changes.Given as goal

abbrev pub invariant-loop-part : goal.invariant-loop-part
invariant-loop-part l = (case : CaseValue) (base : FindingValue) (chunks : List Chunk) (end : ℕ)
    → AllZip (IsCompared base) chunks l.fn.parts.items → AreChunks case 0 end chunks
    → JoinsChanges case base end l.all (into_iter_items l.part-iterator)
