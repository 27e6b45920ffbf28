-- What each reason for a moot call says of the tree, of the call and of the state of its process.
-- Source: docs/SEMANTICS.md, "Three answers", "What each call asks" and "Moving and linking"; path_resolution(7).
use Rattle.std.specs.Prelude.{◌≡◌, ◌==◌, Bool, true, false, List, [], ◌∷◌, Some, None, ⊤, is_some}
use Rattle.std.specs.List.{list_any}
use Rattle.ll_tree.specs.declared.place.NodeId.{NodeId}
use Rattle.ll_tree.specs.declared.place.Place.{Place}
use Rattle.ll_tree.specs.declared.place.Place.TheVariants.{Node, Gap, Nowhere}
use Rattle.ll_lines.specs.Paths.{Path, front, is_prefix}
use Rattle.ll_tree.specs.Trees.{Entry, kind_at, is_dir, node_at, place}
use Rattle.ll_trace.specs.declared.op.Op.{Op}
use Rattle.ll_trace.specs.declared.op.Op.TheVariants as calls
use Rattle.ll_trace.specs.declared.op.Sort.{Sort}
use Rattle.ll_trace.specs.declared.op.Sort.TheVariants.{Regular, Device, Other}
unfoldable pub use Rattle.ll_trace.specs.Operations.{paths_of, are_spelt}
use Rattle.ll_semantics.specs.declared.answer.Descriptor.{Descriptor}
use Rattle.ll_semantics.specs.Moves.{is_root, is_mixed}
use Rattle.ll_semantics.specs.States.{State}
use Rattle.ll_reasons.specs.CallNames.{descriptor_of, is_named, is_on_the_way, named_paths, ruleset_number}
use Rattle.ll_reasons.specs.Made.{is_restrict}
use Rattle.ll_reasons.specs.Reasons.{Reason, absent, no_directory, present, of_kind, root, unmoved, beneath_itself, over_itself, mixed, open_already, unopened, not_for_writing, held_already, unheld, unsupported, unenforced}

-- a place is the root
abbrev pub is_at_root : Place → Bool
is_at_root (Node node) = is_root node
is_at_root (Gap directory) = false
is_at_root Nowhere = false

-- two places are that of one object
abbrev pub is_at_one : Place → Place → Bool
is_at_one (Node a) (Node b) = a.0 == b.0
is_at_one a b = false

-- a move names one object twice
unfoldable pub names_one_twice : List Entry → Op → Bool
names_one_twice tree (calls.Rename from to exchange) = is_at_one (place tree from) (place tree to)
names_one_twice tree op = false

-- the program leaves the call out
unfoldable pub is_left_out : Op → Bool
is_left_out (calls.LeaveOutPath path) = true
is_left_out calls.LeaveOutPort = true
is_left_out op = false

abbrev pub is_regular : Sort → Bool
is_regular Regular = true
is_regular Device = false
is_regular Other = false

-- an object of the tree has the path, and is a directory or isn't
abbrev pub IsThere : List Entry → Path → Bool → Type 0
IsThere tree path as_directory = (node : NodeId) × (node_at tree path ≡ Some node) × (is_dir (kind_at tree node) ≡ as_directory)

-- The names in a reason are those of the call: of its descriptor or its ruleset, of a path that it names, or of a
-- directory on the way to one.
unfoldable pub IsAbout : Op → Reason → Type 0
IsAbout op (absent path) = is_on_the_way op path ≡ true
IsAbout op (no_directory path) = is_on_the_way op path ≡ true
IsAbout op (present path) = is_named op path ≡ true
IsAbout op (of_kind path kind) = is_named op path ≡ true
IsAbout op root = ⊤
IsAbout op (unmoved path) = is_named op path ≡ true
IsAbout op (beneath_itself from to) = named_paths op ≡ from ∷ to ∷ []
IsAbout op (over_itself from to) = named_paths op ≡ from ∷ to ∷ []
IsAbout op (mixed from to) = named_paths op ≡ from ∷ to ∷ []
IsAbout op (open_already fd) = descriptor_of op ≡ Some fd
IsAbout op (unopened fd) = descriptor_of op ≡ Some fd
IsAbout op (not_for_writing fd) = descriptor_of op ≡ Some fd
IsAbout op (held_already rs) = ruleset_number op ≡ Some rs
IsAbout op (unheld rs) = ruleset_number op ≡ Some rs
IsAbout op unsupported = ⊤
IsAbout op unenforced = ⊤

-- what a reason says of these names is so
unfoldable pub IsSo : List Entry → State → Op → Reason → Type 0
IsSo tree s op (absent path) = (node_at tree path ≡ None) × IsThere tree (front path) true
IsSo tree s op (no_directory path) = IsThere tree path false
IsSo tree s op (present path) = is_some (node_at tree path) ≡ true
IsSo tree s op (of_kind path kind) = (node : NodeId) × (node_at tree path ≡ Some node) × (kind_at tree node ≡ kind)
IsSo tree s op root = list_any (λ text. is_at_root (place tree text)) (paths_of op) ≡ true
IsSo tree s op (unmoved path) = names_one_twice tree op ≡ true
IsSo tree s op (beneath_itself from to) = is_prefix from to ≡ true
IsSo tree s op (over_itself from to) = is_prefix to from ≡ true
IsSo tree s op (mixed from to) = (a b : NodeId) × (node_at tree from ≡ Some a) × (node_at tree to ≡ Some b) × (is_mixed tree a b ≡ true)
IsSo tree s op (open_already fd) = is_some (s.descriptors fd) ≡ true
IsSo tree s op (unopened fd) = s.descriptors fd ≡ None
IsSo tree s op (not_for_writing fd) = (held : Descriptor) × (s.descriptors fd ≡ Some held) × (is_regular held.sort ≡ false)
IsSo tree s op (held_already rs) = is_some (s.held rs) ≡ true
IsSo tree s op (unheld rs) = s.held rs ≡ None
IsSo tree s op unsupported = is_left_out op ≡ true
IsSo tree s op unenforced = is_restrict op ≡ true

-- a reason is about the call, and what it says is so
abbrev pub Holds : List Entry → State → Op → Reason → Type 0
Holds tree s op why = IsAbout op why × IsSo tree s op why
