-- What the calls that put a policy in force are answered, and what they make of a process; also those for a newer version, made at an older one by a program
-- that leaves out what this doesn't know.
-- Source: landlock_add_rule(2), landlock_restrict_self(2), "ERRORS"; the kernel's userspace document on Landlock, "Ruleset layers" and "Defining and enforcing a security policy".
use Rattle.std.specs.Prelude.{◌≡◌, ◌≢◌, ℕ, ◌+◌, ◌<◌, ◌≤◌, Bool, true, false, not, List, ◌++◌, map, filter, length, All, None, if◌then◌else◌}
use Rattle.std.specs.List.{list_any}
use Rattle.std.specs.Option.{is_some}
use Rattle.ll_rights.specs.declared.abi.Abi.{Abi}
use Rattle.ll_rights.specs.declared.fs.Fs.{Fs}
use Rattle.ll_tree.specs.declared.place.Place.{Place}
use Rattle.ll_tree.specs.declared.place.Place.TheVariants as places
use Rattle.ll_tree.specs.Trees.{Entry, IsNode, kind_at, place}
use Rattle.ll_tree.specs.TreeFacts.{IsTree}
use Rattle.ll_rules.specs.declared.domain.TheConstants.{MOST_LAYERS}
use Rattle.ll_rules.specs.declared.errno.Errno.TheVariants.{Inval}
use Rattle.ll_rules.specs.InTree.{node, all_in_tree}
use Rattle.ll_rules.specs.Layers.{handles_nothing}
use Rattle.ll_trace.specs.declared.op.Op.{Op}
use Rattle.ll_trace.specs.declared.op.Record.{Record}
use Rattle.ll_trace.specs.BestEffort.{at_best_effort}
use Rattle.ll_semantics.specs.declared.answer.Answer.{Answer}
use Rattle.ll_semantics.specs.declared.answer.Answer.TheVariants.{Allowed, Moot, Refused}
use Rattle.ll_semantics.specs.States.{State, Layer}
use Rattle.ll_semantics.specs.Answers.{fails}
use Rattle.ll_semantics.specs.Worlds.{World, judged_from}
use Rattle.ll_semantics.specs.CallContexts.{world_after}
use Rattle.ll_fitting.specs.declared.written.Parent.{Parent}
use Rattle.ll_fitting.specs.declared.written.Parent.TheVariants.{There, Missing}
use Rattle.ll_fitting.specs.Written as policies
use Rattle.ll_fitting.specs.Fitting.{Fitted, fitted}
use Rattle.ll_fitting.specs.Taken.{is_refused_on, rules_of, layers_of, first_refused}
use Rattle.ll_enforcing.specs.declared.calls.Call.{Call}
use Rattle.ll_enforcing.specs.declared.calls.Call.TheVariants as calls
use Rattle.ll_enforcing.specs.Calls.{calls_of, operation_of}

-- a rule on a missing object is moot; one that only a directory can have is refused on any other object
abbrev pub answer_on : Parent → Fs → Answer
answer_on (There object kind) rights = if is_refused_on (There object kind) rights then fails Inval else Allowed
answer_on Missing rights = Moot

-- what each call is answered
unfoldable pub answer_of : Call → Answer
answer_of (calls.AddPath layer rule) = answer_on rule.parent rule.rights
answer_of call = Allowed

abbrev pub is_refusal : Answer → Bool
is_refusal Allowed = false
is_refusal Moot = false
is_refusal (Refused error numbers) = true

-- ---- where the calls are made

-- an object is in the tree, and of the kind that the policy was read with
abbrev pub IsListed : List Entry → Parent → Type 0
IsListed tree (There object kind) = IsNode tree (node object) × (kind_at tree (node object) ≡ kind)
IsListed tree Missing = Unit {0}

-- no object is at a place
abbrev pub IsNoObject : Place → Type 0
IsNoObject (places.Node here) = ⊥
IsNoObject (places.Gap directory) = Unit {0}
IsNoObject places.Nowhere = Unit {0}

-- A process that was started holds no ruleset under the number, and has room for the layers; the tree lists the objects of the rules.
pub record MayEnforce (tree : List Entry) (missing : List ℕ) (rs : ℕ) (process : ℕ) (layers : List Fitted) (w : World) : Type 0 where
  pub is_tree : IsTree tree
  pub listed : All (λ left. All (λ rule. IsListed tree rule.parent) left.path_rules) layers
  pub not_listed : IsNoObject (place tree missing)
  pub started : process < w.count
  pub free : (w.processes process).held rs ≡ None
  pub room : length (w.processes process).domain + length layers ≤ MOST_LAYERS

-- ---- what they make of it

-- the records of a process that makes some operations
abbrev pub records_of : ℕ → List Op → List Record
records_of process operations = map (λ op. record { line = 0; process = record { 0 = process }; pid = 0; op = op }) operations

-- the operations of all calls
abbrev pub operations_of : List Entry → List ℕ → ℕ → List Fitted → List Op
operations_of tree missing rs layers = map (operation_of tree missing rs) (calls_of layers)

-- A process has layers on top of those that it had, and can't gain privileges. Nothing else of it has changed.
pub record HasGained (layers : List Layer) (before after : State) : Type 0 where
  pub domain : after.domain ≡ before.domain ++ layers
  pub no_new_privs : after.no_new_privs ≡ true
  pub admin : after.admin ≡ before.admin
  pub held : (rs : ℕ) → after.held rs ≡ before.held rs
  pub descriptors : after.descriptors ≡ before.descriptors

-- All operations of layers are answered so, and then the process has the layers.
pub record IsEnforced (tree : List Entry) (missing : List ℕ) (rs : ℕ) (abi : Abi) (process : ℕ) (layers : List Fitted) (w : World) : Type 0 where
  pub answers : judged_from tree abi w (records_of process (operations_of tree missing rs layers)) ≡ map answer_of (calls_of layers)
  pub own : HasGained (all_in_tree tree (map rules_of layers)) (w.processes process)
      ((world_after tree abi w (records_of process (operations_of tree missing rs layers))).processes process)
  pub others : (other : ℕ) → other < w.count → other ≢ process
      → (world_after tree abi w (records_of process (operations_of tree missing rs layers))).processes other ≡ w.processes other

-- ---- at best effort: the kernel's document advises "a best-effort security approach"

-- what a program calls at an older version, that has a policy's calls for a newer one
abbrev pub taken_at : List Entry → List ℕ → ℕ → Abi → Abi → List policies.Layer → List Op
taken_at tree missing rs older newer policy = map (at_best_effort older) (operations_of tree missing rs (fitted newer policy))

-- Of the layers that the process then has on top of its own, those that handle something are the layers that the older version
-- leaves of the policy; and some such call is refused exactly if the older version refuses a rule of the policy.
pub record IsTheSame (tree : List Entry) (missing : List ℕ) (rs : ℕ) (older newer : Abi) (process : ℕ) (policy : List policies.Layer) (w : World) : Type 0 where
  pub layers : List Layer
  pub handling : filter (λ layer. not (handles_nothing layer)) layers ≡ all_in_tree tree (layers_of older policy)
  pub own : HasGained layers (w.processes process)
      ((world_after tree older w (records_of process (taken_at tree missing rs older newer policy))).processes process)
  pub refused : list_any is_refusal (judged_from tree older w (records_of process (taken_at tree missing rs older newer policy)))
      ≡ is_some (first_refused (fitted older policy))
