-- The access rights for the network: their table, and sets of them.
-- Source: the kernel's userspace document on Landlock, "Network flags".
use Rattle.std.specs.Prelude.{ℕ, bit_or, Bool, List, [], ◌∷◌, ◌++◌, codes}
use Rattle.std.specs.List.{list_any, list_all}
use Rattle.ll_rights.specs.declared.net.Net.{Net}
use Rattle.ll_rights.specs.Sets.{Row, not_for_files, unnamed, first_named, holds, word_of, are_same, none_of, each_within, some_lacking}

-- An access right for TCP ports. `other` stands for every name that is none of the rest.
pub data NetRight : Type 0 where
  bind_tcp connect_tcp other : NetRight

-- The table: each right's name, which is the constant of the kernel's header without its prefix, in lower case, the number of
-- its bit, and the ABI that it comes with.
abbrev pub row : NetRight → Row
row bind_tcp = not_for_files (codes "bind_tcp") 0 4
row connect_tcp = not_for_files (codes "connect_tcp") 1 4
row other = unnamed 2

-- the rights that have a name
abbrev pub named_rights : List NetRight
named_rights = bind_tcp ∷ connect_tcp ∷ []

abbrev pub name_of : NetRight → List ℕ
name_of right = (row right).name

-- the number of a right's bit
abbrev pub bit_of : NetRight → ℕ
bit_of right = (row right).bit

-- all rights
unfoldable pub all_rights : List NetRight
all_rights = named_rights ++ other ∷ []

-- the right that a text names, which is `other` where it is no right's name
unfoldable pub right_named : List ℕ → NetRight
unfolding all_rights
right_named text = first_named row other all_rights text

-- ---- sets of rights

-- whether a set has a right
unfoldable pub has : Net → NetRight → Bool
has set right = holds row other set.0 right

-- whether some right passes a test
unfoldable pub some_right : (NetRight → Bool) → Bool
some_right test = list_any test all_rights

-- whether every right passes a test
unfoldable pub every_right : (NetRight → Bool) → Bool
every_right test = list_all test all_rights

-- whether a set has no right
abbrev pub is_empty : Net → Bool
is_empty set = none_of some_right (has set)

-- whether each right of a set is in another
abbrev pub is_within : Net → Net → Bool
is_within set whole = each_within every_right (has set) (has whole)

-- whether some right is wanted and handled and not granted
abbrev pub is_lacking : (NetRight → Bool) → (NetRight → Bool) → (NetRight → Bool) → Bool
is_lacking = some_lacking some_right

-- whether two rights are the same
abbrev pub is_right : NetRight → NetRight → Bool
is_right = are_same row

-- the set without any right
abbrev pub no_right : Net
no_right = record { 0 = 0 }

-- the set that has one right alone
unfoldable pub only : NetRight → Net
only right = record { 0 = word_of row right }

-- the set that has what either of two has
unfoldable pub united : Net → Net → Net
united a b = record { 0 = bit_or a.0 b.0 }
