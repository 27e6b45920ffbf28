-- What a pass over the records of a trace keeps, against the world that the semantics has there.
-- Source: landlock(7); the kernel's userspace document on Landlock, "Inheritance".
use Rattle.std.specs.Prelude.{◌≡◌, ℕ, ◌<◌, ◌≤◌, true, List, [], ◌∷◌, ◌++◌, length, Some, None, All}
use Rattle.std.specs.List.{AllZip}
use Rattle.ll_rights.specs.declared.abi.Abi.{Abi}
use Rattle.ll_rights.specs.declared.fs.Fs.{Fs}
use Rattle.ll_rights.specs.declared.net.Net.{Net}
use Rattle.ll_tree.specs.Trees.{Entry}
use Rattle.ll_rules.specs.Layers.{RulesOn, without_rules}
use Rattle.ll_rules.specs.KeptLayers.{SameRules}
use Rattle.ll_rules.specs.InTree.{in_tree, AreInTree}
use Rattle.ll_trace.specs.declared.op.Op.{Op}
use Rattle.ll_trace.specs.declared.op.Record.{Record}
use Rattle.ll_semantics.specs.declared.answer.RulesetOutcome.{RulesetOutcome}
use Rattle.ll_semantics.specs.declared.answer.Answer.TheVariants.{Allowed}
use Rattle.ll_semantics.specs.States.{State, Layer}
use Rattle.ll_semantics.specs.Answers.{answer}
use Rattle.ll_semantics.specs.Effects.{with_held, effect, leaves_rulesets}
use Rattle.ll_semantics.specs.RulesetOutcomes.{OutcomeFits, is_on_rulesets}
use Rattle.ll_semantics.specs.Worlds.{World, step}
use Rattle.ll_semantics.specs.CallContexts.{world_at}
use Rattle.ll_rulebook.specs.declared.pass.Pass.{Pass}
use Rattle.ll_rulebook.specs.Stores.{held_by, Extends}
use Rattle.ll_rulebook.specs.Settled.{met_by, FitUpTo}

-- a ruleset with rules on nodes of a tree is the same as one with rules on paths
abbrev pub IsSame : List Entry → RulesOn ℕ → Layer → Type 0
IsSame tree kept other = SameRules (in_tree tree kept) other

-- all processes hold rulesets that are there, and all rules for files are on nodes of the tree
pub record IsSound (pass : Pass) : Type 0 where
  pub indices : (process number index : ℕ) → held_by pass.tables.held.items process number ≡ Some index → index < length pass.store.rulesets
  pub rulesets : All (AreInTree pass.tree.now) pass.store.rulesets
  pub layers : All (AreInTree pass.tree.now) pass.store.layers

-- the rulesets are one by one those of the world, and each process of the world holds the same of them
pub record HasRulesetsOf (pass : Pass) (world : World) : Type 0 where
  pub rulesets : AllZip (IsSame pass.tree.now) pass.store.rulesets world.rulesets
  pub count : length pass.tables.held.items ≡ world.count
  pub held : (process number : ℕ) → held_by pass.tables.held.items process number ≡ (world.processes process).held number

-- A call creates a ruleset that handles two sets of rights and has no rule, and its process holds it under a number. It is allowed wherever the number is free.
pub record Creates (tree : List Entry) (abi : Abi) (rs : ℕ) (fs : Fs) (net : Net) (op : Op) : Type 0 where
  pub on_rulesets : is_on_rulesets op ≡ true
  pub allowed : (rulesets : List Layer) (s : State) → s.held rs ≡ None → answer tree abi rulesets op s ≡ Allowed
  pub creates : (rulesets : List Layer) (s : State) → effect tree rulesets op s ≡ leaves_rulesets (rulesets ++ without_rules fs net ∷ []) (with_held s rs (Some (length rulesets)))

-- After a call of a process the pass agrees with the next world, if it agreed with one before, and the outcome fits what the call met there.
pub record Settles (process : ℕ) (op : Op) (old new : Pass) (outcome : RulesetOutcome) : Type 0 where
  pub same_tree : new.tree ≡ old.tree
  pub same_abi : new.abi ≡ old.abi
  pub sound : IsSound new
  pub layers : Extends old.store.layers new.store.layers
  pub agrees : (world : World) → HasRulesetsOf old world → HasRulesetsOf new (step old.tree.now old.abi world process op)
  pub fits : (world : World) → HasRulesetsOf old world → OutcomeFits (met_by old.tree.now old.abi new.store.layers world process) op outcome

-- the first records are settled on a tree and by a version: the pass agrees with the world before the next one
pub record HasSettled (tree : List Entry) (abi : Abi) (records : List Record) (count : ℕ) (pass : Pass) (outcomes : List RulesetOutcome) : Type 0 where
  pub of_tree : pass.tree.now ≡ tree
  pub of_abi : pass.abi ≡ abi
  pub sound : IsSound pass
  pub agrees : HasRulesetsOf pass (world_at tree abi records count)
  pub few : length pass.store.layers ≤ count
  pub counted : length outcomes ≡ count
  pub fits : FitUpTo tree abi records pass.store.layers outcomes

-- one outcome more, of which something holds
pub record AddsOutcome (old new : List RulesetOutcome) (Fact : RulesetOutcome → Type 0) : Type 0 where
  pub outcome : RulesetOutcome
  pub added : new ≡ old ++ outcome ∷ []
  pub holds : Fact outcome
