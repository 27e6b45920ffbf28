-- What a tree in memory keeps, read as the list of its entries, and the facts that hold of it.
-- Source: docs/FORMATS.md, "The tree file".
use Rattle.std.specs.Prelude.{◌≡◌, ℕ, ◌<◌, ◌≤◌, List, Option, IsTrue, length, map, slice_index_or, ◌∷◌, drop, Result}
use Rattle.std.specs.String.{string_bytes}
use Rattle.std.specs.declared.string.String.{String}
use Rattle.std.specs.Map.{lookup}
use Rattle.std.specs.BTreeMap.{is_at}
use Rattle.std.specs.Cmp.Lexicographic.{slice_cmp}
use Rattle.std.specs.Ordering.{nat_cmp}
use Rattle.ll_tree.specs.declared.tree.TheConstants.{MOST_NODES}
use Rattle.ll_tree.specs.declared.tree.Object.{Object}
use Rattle.ll_lines.specs.Paths.{Path, is_path, text_of}
use Rattle.ll_tree.specs.Trees.{Entry, position_of, parent_at, path_at, root}
use Rattle.ll_tree.specs.Chains.{text_mark, slot_in, head_in}
use Rattle.ll_tree.specs.TreeFacts.{IsTree, depth_at, named}
use Rattle.serde_json.specs.Data.{Data}
use Rattle.ll_lines.specs.declared.fault.Cause.{Cause}
use Rattle.ll_lines.specs.Members.{◌>>=◌}
use Rattle.ll_lines.specs.LineByLine.{with_entry}
use Rattle.ll_tree.specs.TreeReading.{entry_in, tree_format}

-- an object's kind, with the path that its text spells
unfoldable pub entry_of : Object → Entry
entry_of object = named (string_bytes object.text) object.kind

unfoldable pub entries_of : List Object → List Entry
entries_of objects = map entry_of objects

-- the number that a text has as a key
abbrev pub number_of : {A : Type 0} → List (String A × ℕ) → List ℕ → Option ℕ
number_of numbers text = lookup (is_at (λ key. slice_cmp nat_cmp text (string_bytes key))) numbers

-- the mark of the text of a node
unfoldable pub mark_at : List Entry → ℕ → ℕ
mark_at entries number = text_mark (text_of (path_at entries (record { 0 = number })))

-- An object has the text, the parent, the depth and the mark of the node of a number, and the next of its chain leaves out no
-- earlier node of its slot.
pub record IsOf (entries : List Entry) (number : ℕ) (object : Object) : Type 0 where
  pub parent : object.parent ≡ parent_at entries (record { 0 = number })
  pub depth : object.depth ≡ depth_at entries (record { 0 = number })
  pub mark : object.mark ≡ mark_at entries number
  pub text : string_bytes object.text ≡ text_of (path_at entries (record { 0 = number }))
  pub falls : object.next ≤ number
  pub next : (before : ℕ) → before < number → slot_in (mark_at entries before) ≡ slot_in (mark_at entries number) → before < object.next

-- The entries are a tree of at most 65,536 nodes, the map has the number of each of their paths, and each object
-- is that of its number. The head of a slot is over each node whose text has it.
pub record IsSound {A : Type 0} (objects : List Object) (numbers : List (String A × ℕ)) (heads : List ℕ) : Type 0 where
  pub listed : IsTree (entries_of objects)
  pub small : length objects ≤ MOST_NODES
  pub found : (path : Path) → IsTrue (is_path path) → number_of numbers (text_of path) ≡ position_of path (entries_of objects)
  pub each : (number : ℕ) (other : Object) → number < length objects → IsOf (entries_of objects) number (slice_index_or objects number other)
  pub first : (number : ℕ) → number < length objects → number < head_in heads (slot_in (mark_at (entries_of objects) number))

-- the entries with the object that a value describes, or its fault
abbrev pub with_value : List Entry → Data → Result (List Entry) Cause
with_value earlier value = do
  entry ← entry_in value
  with_entry tree_format earlier entry

-- the entries of a tree without the root
abbrev pub below_root : List Entry → List Entry
below_root tree = drop 1 tree

abbrev pub IsRooted : List Entry → Type 0
IsRooted tree = tree ≡ root ∷ below_root tree
