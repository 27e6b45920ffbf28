-- The access rights for files: their table, and sets of them.
-- Source: landlock(7), "Filesystem actions"; the kernel's userspace document on Landlock, "Filesystem flags".
use Rattle.std.specs.Prelude.{ℕ, bit_or, Bool, List, [], ◌∷◌, ◌++◌, codes}
use Rattle.std.specs.List.{list_any, list_all}
use Rattle.ll_rights.specs.declared.fs.Fs.{Fs}
use Rattle.ll_rights.specs.Sets.{Row, for_files, not_for_files, unnamed, first_named, holds, word_of, are_same, none_of, each_within, some_lacking}

-- An access right for files. `other` stands for every name that is none of the rest.
pub data FsRight : Type 0 where
  execute write_file read_file read_dir remove_dir remove_file make_char make_dir make_reg make_sock make_fifo : FsRight
  make_block make_sym refer truncate ioctl_dev other : FsRight

-- The table: each right's name, which is the constant of the kernel's header without its prefix, in lower case, the number of
-- its bit, and the ABI that it comes with.
abbrev pub row : FsRight → Row
row execute = for_files (codes "execute") 0 1
row write_file = for_files (codes "write_file") 1 1
row read_file = for_files (codes "read_file") 2 1
row read_dir = not_for_files (codes "read_dir") 3 1
row remove_dir = not_for_files (codes "remove_dir") 4 1
row remove_file = not_for_files (codes "remove_file") 5 1
row make_char = not_for_files (codes "make_char") 6 1
row make_dir = not_for_files (codes "make_dir") 7 1
row make_reg = not_for_files (codes "make_reg") 8 1
row make_sock = not_for_files (codes "make_sock") 9 1
row make_fifo = not_for_files (codes "make_fifo") 10 1
row make_block = not_for_files (codes "make_block") 11 1
row make_sym = not_for_files (codes "make_sym") 12 1
row refer = not_for_files (codes "refer") 13 2
row truncate = for_files (codes "truncate") 14 3
row ioctl_dev = for_files (codes "ioctl_dev") 15 5
row other = unnamed 16

-- the rights that have a name
unfoldable pub named_rights : List FsRight
named_rights =
    execute ∷ write_file ∷ read_file ∷ read_dir ∷ remove_dir ∷ remove_file ∷ make_char ∷ make_dir ∷ make_reg ∷ make_sock ∷ make_fifo ∷ make_block ∷ make_sym ∷ refer ∷ truncate ∷ ioctl_dev ∷ []

abbrev pub name_of : FsRight → List ℕ
name_of right = (row right).name

-- the number of a right's bit
abbrev pub bit_of : FsRight → ℕ
bit_of right = (row right).bit

-- whether a right is among those that apply to what isn't a directory
abbrev pub is_file_right : FsRight → Bool
is_file_right right = (row right).of_files

-- all rights
unfoldable pub all_rights : List FsRight
unfolding named_rights
all_rights = named_rights ++ other ∷ []

-- the right that a text names, which is `other` where it is no right's name
unfoldable pub right_named : List ℕ → FsRight
unfolding all_rights
right_named text = first_named row other all_rights text

-- ---- sets of rights

-- whether a set has a right
unfoldable pub has : Fs → FsRight → Bool
has set right = holds row other set.0 right

-- whether some right passes a test
unfoldable pub some_right : (FsRight → Bool) → Bool
some_right test = list_any test all_rights

-- whether every right passes a test
unfoldable pub every_right : (FsRight → Bool) → Bool
every_right test = list_all test all_rights

-- whether a set has no right
abbrev pub is_empty : Fs → Bool
is_empty set = none_of some_right (has set)

-- whether each right of a set is in another
abbrev pub is_within : Fs → Fs → Bool
is_within set whole = each_within every_right (has set) (has whole)

-- whether some right is wanted and handled and not granted
abbrev pub is_lacking : (FsRight → Bool) → (FsRight → Bool) → (FsRight → Bool) → Bool
is_lacking = some_lacking some_right

-- whether two rights are the same
abbrev pub is_right : FsRight → FsRight → Bool
is_right = are_same row

-- the set without any right
abbrev pub no_right : Fs
no_right = record { 0 = 0 }

-- the set that has one right alone
unfoldable pub only : FsRight → Fs
only right = record { 0 = word_of row right }

-- the set that has what either of two has
unfoldable pub united : Fs → Fs → Fs
united a b = record { 0 = bit_or a.0 b.0 }
