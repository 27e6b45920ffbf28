-- What one process meets and answers, record after record of its own.
-- Source: landlock(7); the kernel's userspace document on Landlock, "Inheritance".
use Rattle.std.specs.Prelude.{ℕ, ◌+◌, List, map, Option, Some, None, unwrap_or, slice_get, if◌then◌else◌}
use Rattle.ll_rights.specs.declared.abi.Abi.{Abi}
use Rattle.ll_tree.specs.Trees.{Entry}
use Rattle.ll_trace.specs.declared.op.Record.{Record}
use Rattle.ll_semantics.specs.declared.answer.Answer.{Answer}
use Rattle.ll_semantics.specs.declared.answer.Answer.TheVariants.{Moot}
use Rattle.ll_semantics.specs.States.{State}
use Rattle.ll_semantics.specs.CallContexts.{world_at}
use Rattle.ll_semantics.specs.Worlds.{judged}
use Rattle.ll_trace.specs.Processes.{is_start, own_records}

-- the index in the trace from which a record finds its process as it is: a start finds it as it begins
abbrev pub index_met : ℕ → Option Record → ℕ
index_met k None = k
index_met k (Some r) = if is_start r.op then k + 1 else k

-- the state that a record finds its process in
unfoldable pub state_met : List Entry → Abi → List Record → ℕ → ℕ → State
state_met tree abi records k process = (world_at tree abi records (index_met k (slice_get records k))).processes process

-- the state that a record leaves a process in
unfoldable pub state_left : List Entry → Abi → List Record → ℕ → ℕ → State
state_left tree abi records k process = (world_at tree abi records (k + 1)).processes process

-- the answer to a record
unfoldable pub answer_at : List Entry → Abi → List Record → ℕ → Answer
answer_at tree abi records k = unwrap_or (slice_get (judged tree abi records) k) Moot

-- a process's own records by their indices, each with its answer
unfoldable pub answers_of : List Entry → Abi → List Record → ℕ → List (ℕ × Answer)
answers_of tree abi records process = map (λ k. (k, answer_at tree abi records k)) (own_records records process)
