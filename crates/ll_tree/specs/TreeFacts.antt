-- What holds of every tree that was read, and of its nodes and places.
-- Source: docs/FORMATS.md, "The tree file".
use Rattle.std.specs.Prelude.{◌≡◌, ℕ, ◌<◌, List, [], IsTrue, length, take, slice_index_or, unwrap_or}
use Rattle.ll_rights.specs.declared.kind.Kind.{Kind}
use Rattle.ll_rights.specs.declared.kind.Kind.TheVariants.{Dir}
use Rattle.ll_tree.specs.declared.place.NodeId.{NodeId}
use Rattle.ll_tree.specs.declared.place.Place.{Place}
use Rattle.ll_tree.specs.declared.place.Place.TheVariants as places
use Rattle.ll_lines.specs.Paths.{Path, front, is_path, path_of}
use Rattle.ll_tree.specs.Trees.{Entry, root, IsNode, path_at, kind_at, is_dir_in}

-- The root is the first entry and no other. Paths are distinct, and what is above any other entry is a
-- directory listed before it.
pub record IsTree (tree : List Entry) : Type 0 where
  pub begins : (0 < length tree) × (slice_index_or tree 0 root ≡ root)
  pub paths : (node : NodeId) → IsNode tree node → IsTrue (is_path (path_at tree node))
  pub distinct : (a b : NodeId) → IsNode tree a → IsNode tree b → path_at tree a ≡ path_at tree b → a ≡ b
  pub above : (node : NodeId) → IsNode tree node → 0 < node.0 → IsTrue (is_dir_in (take node.0 tree) (front (path_at tree node)))

-- a directory that is before a node, and whose path is the node's without its last name
pub record StandsIn (tree : List Entry) (node up : NodeId) : Type 0 where
  pub is_node : IsNode tree up
  pub is_front : path_at tree up ≡ front (path_at tree node)
  pub is_dir : kind_at tree up ≡ Dir
  pub before : up.0 < node.0

-- how many names lead from the root to a node
unfoldable pub depth_at : List Entry → NodeId → ℕ
depth_at tree node = length (path_at tree node)

-- a place of a tree names one of its nodes or its directories
abbrev pub IsPlace : List Entry → Place → Type 0
IsPlace tree (places.Node node) = IsNode tree node
IsPlace tree (places.Gap node) = IsNode tree node × (kind_at tree node ≡ Dir)
IsPlace tree places.Nowhere = Unit {0}

-- the path that a text spells, where it spells one
abbrev pub spelt : List ℕ → Path
spelt text = unwrap_or (path_of text) []

-- the entry that a text and a kind make
abbrev pub named : List ℕ → Kind → Entry
named text kind = record { path = spelt text; kind = kind }
