-- The listed file tree: its objects with their paths and kinds, and the place that a text names in it.
-- Source: docs/FORMATS.md, "The tree file".
use Rattle.std.specs.Prelude.{ℕ, suc, ◌<◌, List, [], ◌∷◌, Bool, true, false, ◌&&◌, Option, Some, None, if◌then◌else◌, length, slice_index_or}
use Rattle.std.specs.List.{list_any}
use Rattle.std.specs.Option.{option_map}
use Rattle.ll_rights.specs.declared.kind.Kind.{Kind}
use Rattle.ll_rights.specs.declared.kind.Kind.TheVariants.{Dir}
use Rattle.ll_tree.specs.declared.place.NodeId.{NodeId}
use Rattle.ll_tree.specs.declared.place.Place.{Place}
use Rattle.ll_tree.specs.declared.place.Place.TheVariants as places
use Rattle.ll_lines.specs.Paths.{Path, front, path_eq, path_of}

-- an object of the tree
pub record Entry : Type 0 where
  pub path : Path
  pub kind : Kind

-- the root, which is there without a line
abbrev pub root : Entry
root = record { path = []; kind = Dir }

-- A tree is the list of its entries, the root first, and a node is an index in this list.
abbrev pub IsNode : List Entry → NodeId → Type 0
IsNode tree node = node.0 < length tree

unfoldable pub path_at : List Entry → NodeId → Path
path_at tree node = (slice_index_or tree node.0 root).path

unfoldable pub kind_at : List Entry → NodeId → Kind
kind_at tree node = (slice_index_or tree node.0 root).kind

abbrev pub is_dir : Kind → Bool
is_dir Dir = true
is_dir kind = false

-- the path is that of a directory of the list
unfoldable pub is_dir_in : List Entry → Path → Bool
is_dir_in tree path = list_any (λ entry. path_eq entry.path path && is_dir entry.kind) tree

-- where a path is in the list
unfoldable pub position_of : Path → List Entry → Option ℕ
position_of path [] = None
position_of path (entry ∷ entries) = if path_eq entry.path path then Some 0 else option_map (λ index. suc index) (position_of path entries)

-- the node of a path
unfoldable pub node_at : List Entry → Path → Option NodeId
node_at tree path = option_map (λ index. record { 0 = index }) (position_of path tree)

-- the directory that holds a path; nothing holds the root
unfoldable pub parent_of : List Entry → Path → Option NodeId
parent_of tree [] = None
parent_of tree (name ∷ names) = node_at tree (front (name ∷ names))

-- the directory that a node is in
unfoldable pub parent_at : List Entry → NodeId → Option NodeId
parent_at tree node = parent_of tree (path_at tree node)

-- the gap in a directory
unfoldable pub gap_in : List Entry → Option NodeId → Place
gap_in tree None = places.Nowhere
gap_in tree (Some node) = if is_dir (kind_at tree node) then places.Gap node else places.Nowhere

-- the place of a path: its node where it has one, else the gap in what is above it
unfoldable pub place_or_gap : List Entry → Path → Option NodeId → Place
place_or_gap tree path (Some node) = places.Node node
place_or_gap tree path None = gap_in tree (node_at tree (front path))

unfoldable pub place_of : List Entry → Option Path → Place
place_of tree None = places.Nowhere
place_of tree (Some path) = place_or_gap tree path (node_at tree path)

-- the place that a text names, which is nowhere if the text is no path
unfoldable pub place : List Entry → List ℕ → Place
place tree text = place_of tree (path_of text)
