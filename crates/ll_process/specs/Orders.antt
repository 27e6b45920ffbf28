-- The law of orders: what a record changes and what its answer rests on, so that processes can be judged in any order.
-- Source: landlock(7); the kernel's userspace document on Landlock, "Inheritance".
use Rattle.std.specs.Prelude.{◌≡◌, ◌≢◌, ℕ, ◌<◌, Bool, true, false, List}
use Rattle.ll_rights.specs.declared.abi.Abi.{Abi}
use Rattle.ll_tree.specs.Trees.{Entry}
use Rattle.ll_trace.specs.declared.op.Op.{Op}
use Rattle.ll_trace.specs.declared.op.Op.TheVariants.{Create, AddPath, AddPort, CreateEmpty}
use Rattle.ll_trace.specs.Processes.{is_starting}
use Rattle.ll_semantics.specs.Worlds.{World, answer_in, step}

-- the call makes or changes a ruleset
unfoldable pub changes_rulesets : Op → Bool
changes_rulesets (Create rs fs net) = true
changes_rulesets (AddPath rs path fs) = true
changes_rulesets (AddPort rs port net) = true
changes_rulesets (CreateEmpty rs) = true
changes_rulesets op = false

-- A call changes the state of its own process, or, if it starts one, of that process, which gets the next number, and of no other.
abbrev pub ChangesNoOther : Type 0
ChangesNoOther =
    (tree : List Entry) (abi : Abi) (world : World) (process : ℕ) (op : Op) (other : ℕ) → other ≢ process →
    (is_starting op ≡ true → other ≢ world.count) →
    (step tree abi world process op).processes other ≡ world.processes other

-- The list of rulesets is changed by create, add_path and add_port alone.
abbrev pub ChangesRulesetsAlone : Type 0
ChangesRulesetsAlone =
    (tree : List Entry) (abi : Abi) (world : World) (process : ℕ) (op : Op) → changes_rulesets op ≡ false →
    (step tree abi world process op).rulesets ≡ world.rulesets

-- two worlds agree on what a call may see: the list of rulesets, and its own process
pub record SeenAlike (process : ℕ) (world other : World) : Type 0 where
  pub rulesets : world.rulesets ≡ other.rulesets
  pub own : world.processes process ≡ other.processes process

-- a call does the same in two worlds: to its answer, to the rulesets, to its own process if it is there, and to the process that it starts
pub record DoneAlike (tree : List Entry) (abi : Abi) (process : ℕ) (op : Op) (world other : World) : Type 0 where
  pub answer : answer_in tree abi world process op ≡ answer_in tree abi other process op
  pub rulesets : (step tree abi world process op).rulesets ≡ (step tree abi other process op).rulesets
  pub own : process < world.count → process < other.count → (step tree abi world process op).processes process ≡ (step tree abi other process op).processes process
  pub started : is_starting op ≡ true → (step tree abi world process op).processes world.count ≡ (step tree abi other process op).processes other.count

-- For one tree and version, what a call answers and changes depends on the call, the state of its own process and the list of rulesets alone.
abbrev pub DependsOnOwn : Type 0
DependsOnOwn =
    (tree : List Entry) (abi : Abi) (process : ℕ) (op : Op) (world other : World) → SeenAlike process world other → DoneAlike tree abi process op world other
