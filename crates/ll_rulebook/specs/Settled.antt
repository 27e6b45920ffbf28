-- What a rulebook says of the records of a trace: for each an outcome, which fits what the record meets.
-- Source: landlock_restrict_self(2); the kernel's userspace document on Landlock, "Defining and enforcing a security policy".
use Rattle.std.specs.Prelude.{◌≡◌, ℕ, List, length, Some, slice_get, All}
use Rattle.ll_rights.specs.declared.abi.Abi.{Abi}
use Rattle.ll_tree.specs.Trees.{Entry}
use Rattle.ll_rules.specs.Layers.{RulesOn}
use Rattle.ll_rules.specs.InTree.{AreInTree}
use Rattle.ll_trace.specs.declared.op.Record.{Record}
use Rattle.ll_semantics.specs.declared.answer.RulesetOutcome.{RulesetOutcome}
use Rattle.ll_semantics.specs.CallContexts.{CallContext, world_at}
use Rattle.ll_semantics.specs.RulesetOutcomes.{OutcomeFits}
use Rattle.ll_semantics.specs.Worlds.{World}

-- what a call of a process meets in a world
abbrev pub met_by : List Entry → Abi → List (RulesOn ℕ) → World → ℕ → CallContext
met_by tree abi layers world process = record { tree = tree; layers = layers; abi = abi; rulesets = world.rulesets; state = world.processes process }

-- each outcome up to an index fits what its record meets in the world before it
abbrev pub FitUpTo : List Entry → Abi → List Record → List (RulesOn ℕ) → List RulesetOutcome → Type 0
FitUpTo tree abi records layers outcomes =
    (k : ℕ) (r : Record) (outcome : RulesetOutcome) → slice_get records k ≡ Some r → slice_get outcomes k ≡ Some outcome
    → OutcomeFits (met_by tree abi layers (world_at tree abi records k) r.process.0) r.op outcome

-- There is an outcome for each record, and it fits what its record meets; the layers' rules are on nodes of the tree.
pub record IsSettled (tree : List Entry) (abi : Abi) (records : List Record) (layers : List (RulesOn ℕ)) (outcomes : List RulesetOutcome) : Type 0 where
  pub length : length outcomes ≡ length records
  pub inside : All (AreInTree tree) layers
  pub fits : FitUpTo tree abi records layers outcomes
