-- Consecutive records of a case, and what is found of them otherwise than in a base.
-- Source: docs/FORMATS.md, "Explanations"; the cutting of a trace into chunks is the code's own.
use Rattle.std.specs.Prelude.{◌≡◌, ◌≤◌, ◌<◌, ℕ, ◌+◌, List, [], ◌∷◌, Some, Result, IfOk, length, slice_get}
use Rattle.std.specs.List.{All}
use Rattle.ll_process.specs.Cases.{CaseValue}
use Rattle.std.specs.declared.alloc.AllocError.{AllocError}
use Rattle.ll_semantics.specs.Worlds.{judged}
use Rattle.ll_findings.specs.Findings.{ChangesValue, FindingValue, IsKept, answer_over, kept_over}
use Rattle.ll_findings.specs.Overlays.{Rise}
use Rattle.ll_findings.specs.declared.chunk.Chunk.{Chunk}

-- chunks of a case that follow each other, from one index to another
abbrev pub AreChunks : CaseValue → ℕ → ℕ → List Chunk → Type 0
AreChunks case from end [] = from ≡ end
AreChunks case from end (chunk ∷ others) = (chunk.case.now ≡ case) × (chunk.from ≡ from) × AreChunks case chunk.end end others

-- a base and the changes to it have the answer to the record at an index, and what is kept of its explanation
pub record IsCovered (case : CaseValue) (base : FindingValue) (changes : ChangesValue) (index : ℕ) : Type 0 where
  pub answer : slice_get (judged case.tree case.abi case.records) index ≡ Some (answer_over base changes index)
  pub kept : IsKept case.tree case.abi case.records index (answer_over base changes index) (kept_over base changes index)

-- changes to a base cover the records from one index to another, and are about these alone; they are about each of these, if the base has none
pub record Covers (case : CaseValue) (base : FindingValue) (from end : ℕ) (changes : ChangesValue) : Type 0 where
  pub ordered : from ≤ end
  pub rise : Rise from changes.indices
  pub below : All (λ index. index < end) changes.indices
  pub answers : length changes.found.answers ≡ length changes.indices
  pub explanations : length changes.found.explanations ≡ length changes.indices
  pub covered : (index : ℕ) → from ≤ index → index < end → IsCovered case base changes index
  pub all : base.answers ≡ [] → from + length changes.indices ≡ end

-- what is found of the records of a chunk otherwise than in a base, unless memory ran out
abbrev pub IsCompared : FindingValue → Chunk → Result ChangesValue AllocError → Type 0
IsCompared base chunk result = IfOk result (Covers chunk.case.now base chunk.from chunk.end)
