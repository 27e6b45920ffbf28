-- When an object may be moved to another directory, by the rules on three ways up: from the object, from the directory that it
-- leaves, and from the one that it comes to.
-- Source: landlock(7), "Filesystem actions", the right to move files between directories.
use Rattle.std.specs.Prelude.{◌≡◌, ℕ, Bool, false, not, ◌&&◌, ◌||◌, List, map, filter, All, if◌then◌else◌}
use Rattle.std.specs.List.{list_all, Contains}
use Rattle.ll_rights.specs.declared.kind.Kind.{Kind}
use Rattle.ll_rights.specs.Rights.{FsRight, refer, all_rights, is_file_right}
use Rattle.ll_rights.specs.Kinds.{make_right_of, remove_right_of}
use Rattle.ll_lines.specs.Paths.{Path, front, path_eq}
use Rattle.ll_tree.specs.declared.place.NodeId.{NodeId}
use Rattle.ll_tree.specs.Trees.{Entry, path_at, is_dir}
use Rattle.ll_rules.specs.Layers.{RulesOn}
use Rattle.ll_policy.specs.Chains.{Granting, some_among, passes}
use Rattle.ll_policy.specs.Granted.{granting}
use Rattle.ll_policy.specs.WaysUp.{all_ruled, way_up}

-- What layers say of moves of objects of a kind: of making and removing one, of moving it between directories, and of each
-- right that it may gain.
pub record MoveGranting : Type 0 where
  pub make : List Granting
  pub remove : List Granting
  pub refer : List Granting
  pub gained : List (List Granting)

-- a right may be gained by objects of a kind if it applies to them
abbrev pub applies : Kind → FsRight → Bool
applies kind right = is_dir kind || is_file_right right

abbrev pub about_moves : Kind → List (RulesOn ℕ) → MoveGranting
about_moves kind layers = record {
  make = map (granting (make_right_of kind)) layers;
  remove = map (granting (remove_right_of kind)) layers;
  refer = map (granting refer) layers;
  gained = map (λ right. map (granting right) layers) (filter (applies kind) all_rights);
}

-- ---- what passes

-- in a layer that handles a right, an object has it already if it has it where it goes to
unfoldable pub gains_nothing : List ℕ → List ℕ → Granting → Bool
gains_nothing object to layer = not (layer.handles && some_among to layer.grants) || some_among object layer.grants

-- the same of each layer, and each of some rights
unfoldable pub gains_none : List ℕ → List ℕ → List (List Granting) → Bool
gains_none object to rights = list_all (λ layers. list_all (gains_nothing object to) layers) rights

-- objects may come to a directory
unfoldable pub comes : MoveGranting → List ℕ → Bool
comes about to = passes about.make to && passes about.refer to

-- a link to another directory
unfoldable pub link_passes : MoveGranting → List ℕ → List ℕ → List ℕ → Bool
link_passes about object from to = comes about to && (passes about.refer from && gains_none object to about.gained)

-- a rename to another directory
unfoldable pub rename_passes : MoveGranting → List ℕ → List ℕ → List ℕ → Bool
rename_passes about object from to = link_passes about object from to && passes about.remove from

-- Whether objects of a kind may be moved: a directory can only be renamed; any other object is linked, which asks for less.
unfoldable pub move_passes : Kind → MoveGranting → List ℕ → List ℕ → List ℕ → Bool
move_passes kind about object from to = if is_dir kind then rename_passes about object from to else link_passes about object from to

-- ---- moves in a tree

-- the same objects are on a chain and on the way up from a path
pub record IsWayUp (tree : List Entry) (nodes : List ℕ) (path : Path) (chain : List ℕ) : Type 0 where
  pub on : All (Contains chain) (way_up tree nodes path)
  pub under : All (Contains (way_up tree nodes path)) chain

-- an object comes from one directory to another, with these ways up
pub record GoesBy (tree : List Entry) (layers : List (RulesOn ℕ)) (moved directory : NodeId) (object from to : List ℕ) : Type 0 where
  pub nodes : List ℕ
  pub listed : All (Contains nodes) (all_ruled layers)
  pub of_object : IsWayUp tree nodes (path_at tree moved) object
  pub of_source : IsWayUp tree nodes (front (path_at tree moved)) from
  pub of_destination : IsWayUp tree nodes (path_at tree directory) to
  pub leaves : path_eq (front (path_at tree moved)) (path_at tree directory) ≡ false
