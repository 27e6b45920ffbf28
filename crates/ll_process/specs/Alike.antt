-- When a record changes the same under two kernels, so that the answer under one follows from that under the other.
-- Source: landlock(7), "VERSIONS"; the kernel's userspace document on Landlock, "Inheritance".
use Rattle.std.specs.Prelude.{◌≡◌, ◌+◌, ℕ, Option, Some, None}
use Rattle.ll_semantics.specs.declared.answer.Answer.{Answer}
use Rattle.ll_semantics.specs.declared.answer.RulesetOutcome.{RulesetOutcome}
use Rattle.ll_semantics.specs.declared.answer.RulesetOutcome.TheVariants.{Answered, Frozen, ByState}
use Rattle.ll_semantics.specs.CallContexts.{world_at}
use Rattle.ll_process.specs.Cases.{CaseValue}
use Rattle.ll_process.specs.Judging.{answer_at}

-- the answer that an outcome has, if it has one
unfoldable pub answer_told : RulesetOutcome → Option Answer
answer_told (Answered answer) = Some answer
answer_told (Frozen id) = None
answer_told ByState = None

-- before the record at an index, all processes and all rulesets are the same in both cases
abbrev pub MeetsAlike : CaseValue → CaseValue → ℕ → Type 0
MeetsAlike one other k = world_at one.tree one.abi one.records k ≡ world_at other.tree other.abi other.records k

-- if they are the same before the record, this is its answer in the other case, and they are the same after it
abbrev pub StaysAlike : CaseValue → CaseValue → ℕ → Answer → Type 0
StaysAlike one other k given =
    MeetsAlike one other k → (given ≡ answer_at other.tree other.abi other.records k) × MeetsAlike one other (k + 1)
