-- A path of the listed tree as the list of its names, the text that spells it, and which paths have a text.
-- Source: docs/FORMATS.md, "Paths".
use Rattle.std.specs.Prelude.{ℕ, ◌∷◌, [], List, Bool, true, false, ◌&&◌, ◌==◌, not, nat_le, length, codes, Option, Some, None, if◌then◌else◌}
use Rattle.std.specs.List.{join_with_byte, list_all, slice_split}
use Rattle.std.specs.Str.{bytes_eq}
use Rattle.std.specs.Cmp.Lexicographic.{pointwise}
use Rattle.ll_lines.specs.declared.path.TheConstants.{LONGEST_PATH}

-- a name is its bytes
abbrev pub Name : Type 0
Name = List ℕ

-- a path is its names from the root down, and the root is the empty list
abbrev pub Path : Type 0
Path = List Name

abbrev pub is_slash : ℕ → Bool
is_slash byte = byte == 47

-- a name holds neither a slash nor the character of number 0
abbrev pub is_name_byte : ℕ → Bool
is_name_byte byte = not (is_slash byte) && not (byte == 0)

-- a name isn't empty, and isn't one of the two names by which a directory names itself and the one above it
unfoldable pub is_name : Name → Bool
is_name name = not (length name == 0) && not (bytes_eq name (codes ".")) && not (bytes_eq name (codes "..")) && list_all is_name_byte name

-- the names between the slashes, where each is one
unfoldable pub names_in : List ℕ → Option Path
names_in [] = Some []
names_in (byte ∷ bytes) = let names = slice_split is_slash (byte ∷ bytes) in if list_all is_name names then Some names else None

unfoldable pub after_slash : List ℕ → Option Path
after_slash [] = None
after_slash (byte ∷ bytes) = if is_slash byte then names_in bytes else None

-- the path that a text of at most 4,096 bytes spells, the first of them a slash
unfoldable pub path_of : List ℕ → Option Path
path_of text = if nat_le (length text) LONGEST_PATH then after_slash text else None

-- the path without its last name
unfoldable pub front : Path → Path
front [] = []
front (name ∷ []) = []
front (name ∷ next ∷ names) = name ∷ front (next ∷ names)

-- two paths have the same names
unfoldable pub path_eq : Path → Path → Bool
path_eq = pointwise bytes_eq

-- the first path lies on the way from the root to the second, which may be the same
unfoldable pub is_prefix : Path → Path → Bool
is_prefix [] path = true
is_prefix (name ∷ names) [] = false
is_prefix (name ∷ names) (first ∷ others) = bytes_eq name first && is_prefix names others

-- a path's text has each name after one slash; the root's is the slash alone
unfoldable pub text_of : Path → List ℕ
text_of path = 47 ∷ join_with_byte 47 path

-- the names fit in a text of at most 4,096 bytes
unfoldable pub is_path : Path → Bool
is_path path = list_all is_name path && nat_le (length (text_of path)) LONGEST_PATH
