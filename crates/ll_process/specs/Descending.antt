-- How far a process and its descendants are judged: which are done, and which are judged in part and wait on a stack.
-- Source: the kernel's userspace document on Landlock, "Inheritance": each child begins with what its parent has.
use Rattle.std.specs.Prelude.{◌≡◌, ℕ, ◌+◌, ◌*◌, ◌≤◌, ◌==◌, List, [], ◌∷◌, ◌++◌, All, Some, sum_by, slice_get, if◌then◌else◌}
use Rattle.std.proofs.Common.{◌⊎◌}
use Rattle.ll_trace.specs.declared.op.ProcessId.{ProcessId}
use Rattle.ll_trace.specs.declared.op.Record.{Record}
use Rattle.ll_trace.specs.Processes.{children, kids, numbers, process_count}
use Rattle.ll_process.specs.declared.piece.Piece.{Piece}
use Rattle.ll_process.specs.declared.progress.Progress.{Progress}
use Rattle.ll_process.specs.Cases.{CaseValue}
use Rattle.ll_process.specs.Jobs.{weight}
use Rattle.ll_process.specs.Progresses.{children_from}

-- each is of this case
abbrev pub AreOf : CaseValue → List Progress → Type 0
AreOf case progresses = All (λ one. one.case.now ≡ case) progresses

-- two more are on a stack
abbrev pub ArePut : List Progress → Progress → Progress → List Progress → Type 0
ArePut before one other after = (after ≡ before ++ one ∷ other ∷ []) ⊎ (after ≡ before ++ other ∷ one ∷ [])

-- the processes that are done and one more: the first stands in front
abbrev pub with_done : ProcessId → List ProcessId → ProcessId → List ProcessId
with_done first done process = if process.0 == first.0 then process ∷ done else done ++ process ∷ []

-- what a process that is judged in part weighs with the children that it has yet to fork
unfoldable pub waiting : List Record → (ℕ → ℕ) → Progress → ℕ
waiting records weight one = weight one.process.0 + sum_by weight (children_from records one.process.0 one.at)

-- what all of its children weigh
unfoldable pub forking : List Record → (ℕ → ℕ) → Progress → ℕ
forking records weight one = sum_by weight (children records one.process.0)

-- 1 for the first process, 0 for any other
unfoldable pub is_first : ProcessId → Progress → ℕ
is_first first one = if one.process.0 == first.0 then 1 else 0

-- What is done, kept and waiting is the first process with the children of all of these that were forked, each as often.
pub record Descended (case : CaseValue) (first : ProcessId) (done : Piece) (kept_before kept : List ℕ) (stack : List Progress) : Type 0 where
  pub shared : (weight : ℕ → ℕ) → sum_by weight (numbers done.processes.items) + sum_by weight kept + sum_by (waiting case.records weight) stack
      ≡ weight first.0 + sum_by weight kept_before + sum_by weight (kids case.records (numbers done.processes.items))
      + sum_by (forking case.records weight) stack
  pub in_front : (slice_get done.processes.items 0 ≡ Some first) ⊎ (1 ≤ sum_by (is_first first) stack)

-- what is still to do of a process that is judged in part, as a number
unfoldable pub work : List Record → Progress → ℕ
work records one = 2 * sum_by (weight (process_count records)) (children_from records one.process.0 one.at) + 1

-- the same of a stack
unfoldable pub work_of : List Record → List Progress → ℕ
work_of records stack = sum_by (work records) stack
