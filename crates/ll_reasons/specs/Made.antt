-- What the record at an index of a trace made, where it is one that makes a layer, a descriptor or a ruleset.
-- Source: landlock_restrict_self(2), landlock_create_ruleset(2); open(2); landlock(7), "Inheritance".
use Rattle.std.specs.Prelude.{◌≡◌, ◌<◌, ℕ, ◌++◌, List, [], Option, Some, None, Bool, true, false, slice_get}
use Rattle.ll_rights.specs.declared.abi.Abi.{Abi}
use Rattle.ll_tree.specs.Trees.{Entry, place}
use Rattle.ll_trace.specs.declared.op.Record.{Record}
use Rattle.ll_trace.specs.declared.op.Op.{Op}
use Rattle.ll_trace.specs.declared.op.Op.TheVariants as calls
use Rattle.ll_semantics.specs.declared.answer.Answer.TheVariants.{Allowed}
use Rattle.ll_semantics.specs.declared.answer.Descriptor.{Descriptor}
use Rattle.ll_semantics.specs.States.{State, Layer}
use Rattle.ll_semantics.specs.Effects.{descriptor, opened}
use Rattle.ll_semantics.specs.RulesetOutcomes.{enforced}
use Rattle.ll_semantics.specs.Worlds.{World, judged}
use Rattle.ll_semantics.specs.CallContexts.{world_at}

-- ---- layers

-- the ruleset that a record, if there is one, restricts its process by in a world
unfoldable pub enforced_by : World → Option Record → Option Layer
enforced_by world None = None
enforced_by world (Some r) = enforced world.rulesets r.op (world.processes r.process.0)

-- the ruleset that the record at an index restricts its process by, as it is in the world before the record
unfoldable pub enforced_at : List Entry → Abi → List Record → ℕ → Option Layer
enforced_at tree abi records k = enforced_by (world_at tree abi records k) (slice_get records k)

-- the call restricts its process
unfoldable pub is_restrict : Op → Bool
is_restrict (calls.Restrict rs) = true
is_restrict op = false

-- ---- descriptors

-- the call opens a file, or takes what is open by then
unfoldable pub is_opening : Op → Bool
is_opening (calls.OpenFile path fd mode create trunc) = true
is_opening (calls.Adopt fd kind) = true
is_opening op = false

-- the descriptor that a call opens, as its process's state is before it; what is taken keeps no layers
unfoldable pub opened_in : List Entry → State → Op → Option Descriptor
opened_in tree s (calls.OpenFile path fd mode create trunc) = Some (opened tree s.domain (place tree path) mode)
opened_in tree s (calls.Adopt fd kind) = Some (descriptor kind [])
opened_in tree s op = None

unfoldable pub opened_by : List Entry → World → Option Record → Option Descriptor
opened_by tree world None = None
opened_by tree world (Some r) = opened_in tree (world.processes r.process.0) r.op

-- the descriptor that the record at an index opens
unfoldable pub opened_at : List Entry → Abi → List Record → ℕ → Option Descriptor
opened_at tree abi records k = opened_by tree (world_at tree abi records k) (slice_get records k)

-- ---- rulesets

-- the call creates a ruleset, even one that handles nothing
unfoldable pub is_create : Op → Bool
is_create (calls.Create rs fs net) = true
is_create (calls.CreateEmpty rs) = true
is_create op = false

-- ---- calls of these kinds

-- the record at an index of the trace is a call of a kind, and is allowed
pub record IsAllowed (is_such : Op → Bool) (tree : List Entry) (abi : Abi) (records : List Record) (k : ℕ) : Type 0 where
  pub of : Record
  pub at : slice_get records k ≡ Some of
  pub such : is_such of.op ≡ true
  pub allowed : slice_get (judged tree abi records) k ≡ Some Allowed

-- and it is before another index
abbrev pub IsEarlier : (Op → Bool) → List Entry → Abi → List Record → ℕ → ℕ → Type 0
IsEarlier is_such tree abi records index k = (k < index) × IsAllowed is_such tree abi records k

-- ---- domains

unfoldable pub domain_by : World → Option Record → List Layer
domain_by world None = []
domain_by world (Some r) = (world.processes r.process.0).domain

-- the domain that the process of the record at an index had before it
unfoldable pub domain_there : List Entry → Abi → List Record → ℕ → List Layer
domain_there tree abi records k = domain_by (world_at tree abi records k) (slice_get records k)

-- a domain that began as another: each layer of this has its number still
abbrev pub BeganAs : List Layer → List Layer → Type 0
BeganAs domain before = (more : List Layer) × (domain ≡ before ++ more)
