-- Tables of rights and sets of them, which are words of named bits: what the rights for files and those for the network
-- have in common.
-- Source: landlock_create_ruleset(2), whose access rights are bits of a mask.
use Rattle.std.specs.Prelude.{ℕ, ◌^◌, Bool, true, false, not, ◌&&◌, ◌||◌, ◌==◌, List, [], nat_le, nat_lt, Option, Some, None, bytes_eq, find, if◌then◌else◌, unwrap_or}
use Rattle.std.specs.Int.{bit_at}

-- Of bits the first `named` of which have a name: whether this one is there.
-- All bits from `named` on stand for one member, which is there if any of them is.
abbrev pub has_bit : ℕ → ℕ → ℕ → Bool
has_bit named bits bit = if nat_lt bit named then bit_at bits bit == 1 else nat_le (2 ^ named) bits

-- What a table says of a right: its name, the number of its bit, the ABI that it comes with, and whether it applies to what
-- isn't a directory.
pub record Row : Type 0 where
  pub name : List ℕ
  pub bit : ℕ
  pub since : Option ℕ
  pub of_files : Bool

-- a right that applies to all files, and one that doesn't
abbrev pub for_files : List ℕ → ℕ → ℕ → Row
for_files name bit abi = record { name = name; bit = bit; since = Some abi; of_files = true }

abbrev pub not_for_files : List ℕ → ℕ → ℕ → Row
not_for_files name bit abi = record { name = name; bit = bit; since = Some abi; of_files = false }

-- what stands for all rights without a name: it has the first bit behind the named ones, and comes with no ABI
abbrev pub unnamed : ℕ → Row
unnamed bit = record { name = []; bit = bit; since = None; of_files = false }

-- the first of some rights that a text names, else `other`
abbrev pub first_named : {R : Type 0} → (R → Row) → R → List R → List ℕ → R
first_named row other rights text = unwrap_or (find (λ right. bytes_eq text (row right).name) rights) other

-- ---- sets, which are words of bits

-- whether a word has a right: each right with a name has a bit of its own, and `other` has all that are left
abbrev pub holds : {R : Type 0} → (R → Row) → R → ℕ → R → Bool
holds row other word right = has_bit (row other).bit word (row right).bit

-- the word that has one right alone
abbrev pub word_of : {R : Type 0} → (R → Row) → R → ℕ
word_of row right = 2 ^ (row right).bit

-- whether two rights are the same
abbrev pub are_same : {R : Type 0} → (R → Row) → R → R → Bool
are_same row a b = (row a).bit == (row b).bit

-- whether no right passes a test, where `some` says whether some right does
abbrev pub none_of : {R : Type 0} → ((R → Bool) → Bool) → (R → Bool) → Bool
none_of some set = not (some set)

-- whether each right of a set is in another, where `every` says whether each right passes a test
abbrev pub each_within : {R : Type 0} → ((R → Bool) → Bool) → (R → Bool) → (R → Bool) → Bool
each_within every set whole = every (λ right. not (set right) || whole right)

-- whether some right is wanted and handled and not granted
abbrev pub some_lacking : {R : Type 0} → ((R → Bool) → Bool) → (R → Bool) → (R → Bool) → (R → Bool) → Bool
some_lacking some wanted handled granted = some (λ right. wanted right && handled right && not (granted right))
