-- What a process has by itself before and after one of its own records.
-- Source: landlock(7); the kernel's userspace document on Landlock, "Inheritance".
use Rattle.std.specs.Prelude.{◌≡◌, ℕ, Some, slice_get}
use Rattle.ll_tree.specs.declared.place.Place.{Place}
use Rattle.ll_trace.specs.declared.op.Record.{Record}
use Rattle.ll_trace.specs.FirstPlaces.{first_place}
use Rattle.ll_state.specs.declared.own_state.OwnState.{OwnState}
use Rattle.ll_semantics.specs.CallContexts.{CallContext, world_at}
use Rattle.ll_process.specs.Cases.{CaseValue, AgreesIn}
use Rattle.ll_process.specs.Judging.{state_met, state_left}

-- the record at an index is the process's own
abbrev pub IsOwn : CaseValue → ℕ → ℕ → Type 0
IsOwn case index process = (r : Record) × (slice_get case.records index ≡ Some r) × (r.process.0 ≡ process)

-- this is the place of the first path of the record at an index
abbrev pub IsFirstPlace : CaseValue → ℕ → Place → Type 0
IsFirstPlace case index place = (r : Record) → slice_get case.records index ≡ Some r → place ≡ first_place case.tree r.op

-- what a process has by itself is what its record at an index meets
abbrev pub Meets : CaseValue → ℕ → ℕ → OwnState → Type 0
Meets case index process own = AgreesIn case own (state_met case.tree case.abi case.records index process)

-- or what that record leaves
abbrev pub Leaves : CaseValue → ℕ → ℕ → OwnState → Type 0
Leaves case index process own = AgreesIn case own (state_left case.tree case.abi case.records index process)

-- what the record at an index meets
abbrev pub context_at : CaseValue → ℕ → ℕ → CallContext
context_at case index process = record {
  tree = case.tree;
  layers = case.layers;
  abi = case.abi;
  rulesets = (world_at case.tree case.abi case.records index).rulesets;
  state = state_met case.tree case.abi case.records index process;
}
