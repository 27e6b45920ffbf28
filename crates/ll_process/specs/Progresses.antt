-- How far a process is judged: what is left of its own records is not answered yet, and may fork further children.
-- Source: landlock(7); the kernel's userspace document on Landlock, "Inheritance".
use Rattle.std.specs.Prelude.{◌≡◌, ℕ, List, Some, drop, map, slice_get}
use Rattle.std.specs.List.{filter_map}
use Rattle.ll_trace.specs.declared.op.Record.{Record}
use Rattle.ll_trace.specs.Processes.{own_records, forked_at}
use Rattle.ll_semantics.specs.declared.answer.Answer.{Answer}
use Rattle.ll_state.specs.declared.own_state.OwnState.{OwnState}
use Rattle.ll_process.specs.Cases.{CaseValue}
use Rattle.ll_process.specs.Judging.{answer_at}
use Rattle.ll_process.specs.Own.{Meets}

-- the answers to a process's own records from a position on, with their indices
unfoldable pub answers_from : CaseValue → ℕ → ℕ → List (ℕ × Answer)
answers_from case process at = map (λ k. (k, answer_at case.tree case.abi case.records k)) (drop at (own_records case.records process))

-- the children that these records fork
unfoldable pub children_from : List Record → ℕ → ℕ → List ℕ
children_from records process at = filter_map (forked_at records) (drop at (own_records records process))

-- what a process has by itself is what its own record at a position meets, if there is one
abbrev pub MeetsFrom : CaseValue → ℕ → ℕ → OwnState → Type 0
MeetsFrom case process at own = (index : ℕ) → slice_get (own_records case.records process) at ≡ Some index → Meets case index process own
