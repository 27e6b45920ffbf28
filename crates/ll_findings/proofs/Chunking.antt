-- Chunks, one behind the other.
use Rattle.std.proofs.Common.{◌≡◌, ◌∙◌, ◌++◌, ◌∷◌, ℕ, List, [], refl, sym, subst}
use Rattle.ll_process.specs.Cases.{CaseValue}
use Rattle.ll_findings.specs.Chunks.{AreChunks}
use Rattle.ll_findings.specs.declared.chunk.Chunk.{Chunk}

pub one_chunk_more : (case : CaseValue) (from end : ℕ) (chunks : List Chunk) (chunk : Chunk) → AreChunks case from end chunks
    → chunk.case.now ≡ case → chunk.from ≡ end → AreChunks case from chunk.end (chunks ++ chunk ∷ [])
one_chunk_more case from end [] chunk are of_case at = (of_case, at ∙ sym are, refl)
one_chunk_more case from end (first ∷ chunks) chunk are of_case at =
    (are.0, are.1, one_chunk_more case first.end end chunks chunk are.2 of_case at)

-- chunks of a whole case
pub whole_chunks : (case other : CaseValue) (from end last : ℕ) (chunks : List Chunk) → other ≡ case → from ≡ 0 → end ≡ last
    → AreChunks other from end chunks → AreChunks case 0 last chunks
whole_chunks case other from end last chunks of_case at ends are =
    subst (λ n. AreChunks case 0 n chunks) ends (subst (λ n. AreChunks case n end chunks) at
    (subst (λ cv. AreChunks cv from end chunks) of_case are))
