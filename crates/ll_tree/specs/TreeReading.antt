-- The reading of the tree file: the object on a line, and what is wrong with it after the lines before.
-- Source: docs/FORMATS.md, "The tree file".
use Rattle.std.specs.Prelude.{◌≡◌, List, ◌∷◌, ℕ, Bool, not, nat_lt, length, codes, Option, Some, None, Result, Ok, ok_or, if◌then◌else◌}
use Rattle.std.specs.List.{list_any}
use Rattle.std.specs.Str.{bytes_eq}
use Rattle.serde_json.specs.Data.{Data}
use Rattle.ll_rights.specs.declared.kind.Kind.{Kind}
use Rattle.ll_rights.specs.declared.kind.Kind.TheVariants.{Dir, Reg, Sym, Char, Block, Fifo, Sock}
use Rattle.ll_lines.specs.declared.fault.Cause.{Cause}
use Rattle.ll_lines.specs.declared.fault.Cause.TheVariants.{Field, BadPath, Twice, NoParent, TooMany}
use Rattle.ll_lines.specs.Members.{value_at, text_at, ◌>>=◌}
use Rattle.ll_lines.specs.Reading.{Format, IsGood}
use Rattle.ll_lines.specs.Paths.{Path, path_of, path_eq, front}
use Rattle.ll_tree.specs.declared.tree.TheConstants.{MOST_NODES}
use Rattle.ll_tree.specs.Trees.{Entry, root, is_dir_in}

-- the kind that a name stands for
unfoldable pub kind_named : List ℕ → Option Kind
kind_named name =
    if bytes_eq name (codes "dir") then Some Dir
    else if bytes_eq name (codes "reg") then Some Reg
    else if bytes_eq name (codes "sym") then Some Sym
    else if bytes_eq name (codes "char") then Some Char
    else if bytes_eq name (codes "block") then Some Block
    else if bytes_eq name (codes "fifo") then Some Fifo
    else if bytes_eq name (codes "sock") then Some Sock
    else None

-- the object that a value describes
unfoldable pub entry_in : Data → Result Entry Cause
entry_in value = do
  text ← text_at (codes "path") value
  name ← text_at (codes "kind") value
  kind ← ok_or (kind_named name) Field
  path ← ok_or (path_of text) BadPath
  Ok (record { path = path; kind = kind })

-- the object on a line
unfoldable pub entry_on : List ℕ → Result Entry Cause
entry_on line = do
  value ← value_at line
  entry_in value

unfoldable pub is_listed : List Entry → Path → Bool
is_listed entries path = list_any (λ entry. path_eq entry.path path) entries

-- the first fault of an object where these are there already
unfoldable pub fault_in : List Entry → Entry → Option Cause
fault_in tree entry =
    if is_listed tree entry.path then Some Twice
    else if not (is_dir_in tree (front entry.path)) then Some NoParent
    else if nat_lt (length tree) MOST_NODES then None
    else Some TooMany

-- the tree file: the root is there before the first line
abbrev pub tree_format : Format Entry
tree_format = record { entry_of_line = λ line. entry_on line.bytes; fault_after = λ earlier. fault_in (root ∷ earlier) }

-- the tree that a file is, where none of its lines has a fault
abbrev pub IsTreeOf : List ℕ → List Entry → Type 0
IsTreeOf bytes tree = (entries : List Entry) × (tree ≡ root ∷ entries) × IsGood tree_format bytes entries
