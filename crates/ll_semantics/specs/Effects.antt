-- What an allowed call changes: nothing, the state of its own process, the rulesets, or what a new process begins with.
-- Source: landlock_restrict_self(2); landlock(7), "Inheritance"; the kernel's userspace document on Landlock, "Truncating files".
use Rattle.std.specs.Prelude.{ℕ, List, [], ◌∷◌, ◌++◌, length, true, Option, Some, None, option_map, option_to_list, unwrap_or, nat_eq, slice_get, slice_set}
use Rattle.std.specs.Map.{update}
use Rattle.ll_rights.specs.declared.kind.Kind.{Kind}
use Rattle.ll_rights.specs.declared.kind.Kind.TheVariants.{Reg, Char, Block}
use Rattle.ll_rights.specs.Rights.{truncate, ioctl_dev, only, no_right}
use Rattle.ll_rights.specs.NetRights as network
use Rattle.ll_tree.specs.declared.place.NodeId.{NodeId}
use Rattle.ll_tree.specs.declared.place.Place.{Place}
use Rattle.ll_tree.specs.declared.place.Place.TheVariants.{Node, Gap, Nowhere}
use Rattle.ll_tree.specs.Trees.{Entry, path_at, kind_at, place}
use Rattle.ll_rules.specs.Layers.{without_rules, with_port_rule}
use Rattle.ll_rules.specs.Rulesets.{with_rule_at}
use Rattle.ll_rules.specs.Checks.{refusing}
use Rattle.ll_trace.specs.declared.op.Op.{Op}
use Rattle.ll_trace.specs.declared.op.Op.TheVariants as calls
use Rattle.ll_trace.specs.declared.op.Mode.{Mode}
use Rattle.ll_trace.specs.declared.op.Mode.TheVariants.{Read}
use Rattle.ll_trace.specs.declared.op.Sort.{Sort}
use Rattle.ll_trace.specs.declared.op.Sort.TheVariants.{Regular, Device, Other}
use Rattle.ll_semantics.specs.declared.answer.Descriptor.{Descriptor}
use Rattle.ll_semantics.specs.States.{State, Layer, fresh}
use Rattle.ll_semantics.specs.Answers.{named}

-- ---- descriptors

abbrev pub descriptor : Sort → List ℕ → Descriptor
descriptor sort kept = record { sort = sort; kept = kept }

-- a file that is open for writing keeps the layers that lack truncate on its node
abbrev pub opened_file : List ℕ → Mode → Descriptor
opened_file kept Read = descriptor Other []
opened_file kept mode = descriptor Regular kept

-- what opening an object makes
unfoldable pub opened_kind : List Entry → List Layer → Kind → NodeId → Mode → Descriptor
opened_kind tree domain Reg node mode = opened_file (refusing domain (path_at tree node) (only truncate)) mode
opened_kind tree domain Char node mode = descriptor Device (refusing domain (path_at tree node) (only ioctl_dev))
opened_kind tree domain Block node mode = descriptor Device (refusing domain (path_at tree node) (only ioctl_dev))
opened_kind tree domain kind node mode = descriptor Other []

-- what opening a place makes; a new file keeps the layers that lack truncate on its directory
unfoldable pub opened : List Entry → List Layer → Place → Mode → Descriptor
opened tree domain (Node node) mode = opened_kind tree domain (kind_at tree node) node mode
opened tree domain (Gap directory) mode = opened_file (refusing domain (path_at tree directory) (only truncate)) mode
opened tree domain Nowhere mode = descriptor Other []

-- ---- the state of the call's own process

abbrev pub with_descriptor : State → ℕ → Option Descriptor → State
with_descriptor s fd held = record s { descriptors = update nat_eq s.descriptors fd held }

abbrev pub with_held : State → ℕ → Option ℕ → State
with_held s rs index = record s { held = update nat_eq s.held rs index }

-- one more layer: the ruleset as it is now
abbrev pub with_layer : State → Option Layer → State
with_layer s rules = record s { domain = s.domain ++ option_to_list rules }

-- ---- the rulesets, one list for all processes

-- what is at an index of the list becomes another
abbrev pub changed_at : List Layer → Option ℕ → (Layer → Layer) → List Layer
changed_at rulesets None f = rulesets
changed_at rulesets (Some index) f = unwrap_or (option_map (λ old. slice_set rulesets index (f old)) (slice_get rulesets index)) rulesets

-- ---- every call

-- what a call changes: nothing; the state of its process; the rulesets and that state; or a new process begins
pub data Effect : Type 0 where
  nothing : Effect
  leaves : State → Effect
  leaves_rulesets : List Layer → State → Effect
  begins : State → Effect

-- A start begins a process afresh. A forked child gets all of its parent's state, and the rulesets that both hold are the same.
unfoldable pub effect : List Entry → List Layer → Op → State → Effect
effect tree rulesets (calls.Start nnp admin) s = begins (fresh nnp admin)
effect tree rulesets (calls.Fork child) s = begins s
effect tree rulesets calls.Exit s = nothing
effect tree rulesets calls.Nnp s = leaves (record s { no_new_privs = true })
effect tree rulesets (calls.Create rs fs net) s = leaves_rulesets (rulesets ++ without_rules fs net ∷ []) (with_held s rs (Some (length rulesets)))
effect tree rulesets (calls.AddPath rs path fs) s = leaves_rulesets (changed_at rulesets (s.held rs) (λ old. with_rule_at tree old (place tree path) fs)) s
effect tree rulesets (calls.AddPort rs port net) s = leaves_rulesets (changed_at rulesets (s.held rs) (λ old. with_port_rule old port net)) s
effect tree rulesets (calls.CloseRs rs) s = leaves (with_held s rs None)
effect tree rulesets (calls.Restrict rs) s = leaves (with_layer s (named rulesets (s.held rs)))
effect tree rulesets (calls.OpenFile path fd mode create trunc) s = leaves (with_descriptor s fd (Some (opened tree s.domain (place tree path) mode)))
effect tree rulesets (calls.Adopt fd kind) s = leaves (with_descriptor s fd (Some (descriptor kind [])))
effect tree rulesets (calls.Dup fd to) s = leaves (with_descriptor s to (s.descriptors fd))
effect tree rulesets (calls.Close fd) s = leaves (with_descriptor s fd None)
effect tree rulesets (calls.Ftruncate fd) s = nothing
effect tree rulesets (calls.Ioctl fd driver) s = nothing
effect tree rulesets (calls.Truncate path) s = nothing
effect tree rulesets (calls.Exec path) s = nothing
effect tree rulesets (calls.Mknod path kind) s = nothing
effect tree rulesets (calls.Mkdir path) s = nothing
effect tree rulesets (calls.Symlink path) s = nothing
effect tree rulesets (calls.Unlink path) s = nothing
effect tree rulesets (calls.Rmdir path) s = nothing
effect tree rulesets (calls.Rename from to exchange) s = nothing
effect tree rulesets (calls.Link from to) s = nothing
effect tree rulesets calls.Mount s = nothing
effect tree rulesets (calls.Bind port) s = nothing
effect tree rulesets (calls.Connect port) s = nothing
effect tree rulesets (calls.CreateEmpty rs) s = leaves_rulesets (rulesets ++ without_rules no_right network.no_right ∷ []) (with_held s rs (Some (length rulesets)))
effect tree rulesets (calls.LeaveOutPath path) s = nothing
effect tree rulesets calls.LeaveOutPort s = nothing
