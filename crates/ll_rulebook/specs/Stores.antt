-- The rulesets of a trace and the layers that they were frozen to, what becomes of both, and which rulesets each process
-- holds, under which numbers.
-- Source: landlock_create_ruleset(2); the kernel's userspace document on Landlock, "Defining and enforcing a security
-- policy" and "Inheritance".
use Rattle.std.specs.Prelude.{◌≡◌, ℕ, ◌≤◌, List, [], ◌∷◌, ◌++◌, length, Option, Some, Result, Ok, Err, OnOk, OnErr, MatchOption, IsOkUnless, All, option_and_then, slice_get, slice_set, map, ◌+◌, ◌==◌, if◌then◌else◌, None, nat_eq}
use Rattle.ll_rights.specs.declared.abi.Abi.{Abi}
use Rattle.ll_rights.specs.declared.fs.Fs.{Fs}
use Rattle.ll_rights.specs.declared.net.Net.{Net}
use Rattle.ll_tree.specs.declared.place.Place.{Place}
use Rattle.ll_tree.specs.Trees.{Entry}
use Rattle.ll_rules.specs.declared.domain.LayerId.{LayerId}
use Rattle.ll_rules.specs.declared.errno.RuleFault.{RuleFault}
use Rattle.ll_rules.specs.declared.errno.RuleFault.TheVariants as faults
use Rattle.ll_semantics.specs.declared.answer.Answer.TheVariants.{Allowed, Moot}
use Rattle.ll_semantics.specs.declared.answer.RulesetOutcome.{RulesetOutcome}
use Rattle.ll_semantics.specs.declared.answer.RulesetOutcome.TheVariants.{Answered}
use Rattle.ll_semantics.specs.Answers.{fails}
use Rattle.ll_rules.specs.Layers.{RulesOn}
use Rattle.ll_rulebook.specs.declared.store.Stored.{Stored}
use Rattle.ll_rules.specs.KeptLayers.{SameRules, GrantsOnPort}
use Rattle.ll_rules.specs.InTree.{in_tree, AreInTree}
use Rattle.ll_rules.specs.RuleFaults.{add_path_fault, add_port_fault}
use Rattle.ll_rules.specs.Rulesets.{with_rule_at}
use Rattle.std.specs.Map.{update}
use Rattle.std.specs.Ordering.{nat_cmp}
use Rattle.std.specs.FinMap.{FinMap, get}

-- the rulesets in the order in which they were created, and the layers in the order in which they were frozen
pub record Stock : Type 0 where
  pub rulesets : List (RulesOn ℕ)
  pub layers : List (RulesOn ℕ)

abbrev pub rulesets_of : List Stored → List (RulesOn ℕ)
rulesets_of stored = map (λ one. one.ruleset) stored

abbrev pub stock_of : List Stored → List (RulesOn ℕ) → Stock
stock_of stored layers = record { rulesets = rulesets_of stored; layers = layers }

abbrev pub with_created : Stock → RulesOn ℕ → Stock
with_created stock one = record stock { rulesets = stock.rulesets ++ one ∷ [] }

abbrev pub with_changed : Stock → ℕ → RulesOn ℕ → Stock
with_changed stock index one = record stock { rulesets = slice_set stock.rulesets index one }

-- the ruleset at an index became another
pub record Becomes (old new : Stock) (index : ℕ) (IsNow : RulesOn ℕ → Type 0) : Type 0 where
  pub after : RulesOn ℕ
  pub changed : new ≡ with_changed old index after
  pub is_now : IsNow after

-- one rule more in the ruleset at an index, or a fault, with which all is as it was
pub record AddsRule (fault : RulesOn ℕ → Option RuleFault) (IsAdded : RulesOn ℕ → RulesOn ℕ → Type 0) (result : Result (Unit {0}) RuleFault) (index : ℕ) (old new : Stock) : Type 0 where
  pub before : RulesOn ℕ
  pub was : slice_get old.rulesets index ≡ Some before
  pub told : MatchOption (fault before) (IsOkUnless result faults.Memory) (λ fault. result ≡ Err fault)
  pub added : OnOk result (Becomes old new index (IsAdded before))
  pub refused : OnErr result (new ≡ old)

-- a rule for files, on nodes of a tree
abbrev pub IsPathAdded : List Entry → Place → Fs → RulesOn ℕ → RulesOn ℕ → Type 0
IsPathAdded tree spot files before after = SameRules (in_tree tree after) (with_rule_at tree (in_tree tree before) spot files) × AreInTree tree after

abbrev pub AddsPathRule : List Entry → Place → Fs → Result (Unit {0}) RuleFault → ℕ → Stock → Stock → Type 0
AddsPathRule tree spot files = AddsRule (λ before. add_path_fault tree before spot files) (IsPathAdded tree spot files)

-- a rule for a port
abbrev pub AddsPortRule : Abi → ℕ → Net → Result (Unit {0}) RuleFault → ℕ → Stock → Stock → Type 0
AddsPortRule abi port network = AddsRule (λ before. add_port_fault abi before port network) (λ before after. GrantsOnPort before after port network)

-- A ruleset that names the layer that it was frozen to still is that layer.
abbrev pub IsFrozenTo : List (RulesOn ℕ) → Stored → Type 0
IsFrozenTo layers one = (id : LayerId) → one.frozen ≡ Some id → slice_get layers id.0 ≡ Some one.ruleset

abbrev pub AreFrozen : List Stored → List (RulesOn ℕ) → Type 0
AreFrozen stored layers = All (IsFrozenTo layers) stored

-- at most one layer more, at the end
pub record Extends (old new : List (RulesOn ℕ)) : Type 0 where
  pub more : List (RulesOn ℕ)
  pub is_more : new ≡ old ++ more
  pub one : length more ≤ 1

-- The layer of a number is the ruleset at an index as it is; the rulesets are as they were.
pub record Freezes (old new : Stock) (index : ℕ) (id : LayerId) : Type 0 where
  pub layer : slice_get new.layers id.0 ≡ slice_get old.rulesets index
  pub rulesets : new.rulesets ≡ old.rulesets
  pub layers : Extends old.layers new.layers
  pub inside : (tree : List Entry) → All (AreInTree tree) old.rulesets → All (AreInTree tree) old.layers → All (AreInTree tree) new.layers

-- the answer to a call that adds a rule with this outcome, other than out of memory
abbrev pub IsAnswerTo : Result (Unit {0}) RuleFault → RulesetOutcome → Type 0
IsAnswerTo (Ok done) outcome = outcome ≡ Answered Allowed
IsAnswerTo (Err (faults.Errno error)) outcome = outcome ≡ Answered (fails error)
IsAnswerTo (Err faults.Moot) outcome = outcome ≡ Answered Moot
IsAnswerTo (Err faults.Memory) outcome = ⊥

-- the index of the ruleset that a process holds under a number
unfoldable pub held_by : List (FinMap nat_cmp ℕ) → ℕ → ℕ → Option ℕ
held_by tables process number = option_and_then (λ held. get held number) (slice_get tables process)

-- There are so many processes now, of which one holds these; each other one holds what it held.
pub record NowHolds (old new : List (FinMap nat_cmp ℕ)) (count process : ℕ) (held : ℕ → Option ℕ) : Type 0 where
  pub counted : length new ≡ count
  pub holds : (p q : ℕ) → held_by new p q ≡ (if p == process then held q else held_by old p q)

-- under one number a process now holds what is there, or nothing
abbrev pub HoldsUnder : List (FinMap nat_cmp ℕ) → List (FinMap nat_cmp ℕ) → ℕ → ℕ → Option ℕ → Type 0
HoldsUnder old new process number index = NowHolds old new (length old) process (update nat_eq (held_by old process) number index)

-- one process more, which holds these
abbrev pub BeginsHolding : List (FinMap nat_cmp ℕ) → List (FinMap nat_cmp ℕ) → (ℕ → Option ℕ) → Type 0
BeginsHolding old new held = NowHolds old new (length old + 1) (length old) held
