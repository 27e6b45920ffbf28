-- Kinds of records: records of which the same is said are of one kind.
-- Source: docs/FORMATS.md, "Kinds".
use Rattle.std.specs.Prelude.{◌≡◌, ◌==◌, ◌<◌, ◌≤◌, ◌&&◌, ◌++◌, ℕ, Bool, not, true, List, [], bytes_eq, count_by, filter, get_or, length, map, take}
use Rattle.std.specs.List.{All, flat_map, list_any, range_with_len, sum_by}

-- what is said of the record at an index; nothing is said of one that is left out
abbrev pub said_at : List (List ℕ) → ℕ → List ℕ
said_at said index = get_or said index []

-- the same is said of an earlier record
abbrev pub is_said_before : List (List ℕ) → ℕ → Bool
is_said_before said index = list_any (bytes_eq (said_at said index)) (take index said)

-- something is said
abbrev pub is_told : List ℕ → Bool
is_told text = not (length text == 0)

-- a record is the first of its kind
abbrev pub is_first : List (List ℕ) → ℕ → Bool
is_first said index = is_told (said_at said index) && not (is_said_before said index)

-- how many records are of the kind of the record at an index
abbrev pub records_like : List (List ℕ) → ℕ → ℕ
records_like said index = count_by (bytes_eq (said_at said index)) said

-- a kind: the index of its first record, and how many records are of it
pub record Kind : Type 0 where
  pub first : ℕ
  pub records : ℕ

abbrev pub kind_from : List (List ℕ) → ℕ → Kind
kind_from said index = record { first = index; records = records_like said index }

-- the kinds, in the order of their first records
abbrev pub kinds_of : List (List ℕ) → List Kind
kinds_of said = map (kind_from said) (filter (is_first said) (range_with_len 0 (length said)))

-- the row of a kind: how many records are of it and the line of the first, told in some form, and what is said of that one
abbrev pub kind_text : (ℕ → ℕ → List ℕ) → List ℕ → List (List ℕ) → Kind → List ℕ
kind_text head lines said kind = head kind.records (get_or lines kind.first 0) ++ said_at said kind.first

-- the rows of all kinds, where these are the lines of the records, and this is said of them
abbrev pub kinds_text : (ℕ → ℕ → List ℕ) → List ℕ → List (List ℕ) → List ℕ
kinds_text head lines said = flat_map (kind_text head lines said) (kinds_of said)

-- ---- what holds of kinds

-- a kind is that of a record, of which the same is said as of the kind's first one
abbrev pub is_kind_of : List (List ℕ) → ℕ → Kind → Bool
is_kind_of said index kind = bytes_eq (said_at said kind.first) (said_at said index)

-- the record of a kind with the least index is its first
abbrev pub IsLeast : List (List ℕ) → Kind → Type 0
IsLeast said kind = (index : ℕ) → index < length said → is_kind_of said index kind ≡ true → kind.first ≤ index

-- each record of which something is said is of one kind, the kinds have as many records as there are of those, and the
-- first record of each is the one with the least index
pub record ArePartedByKind (said : List (List ℕ)) : Type 0 where
  pub one : (index : ℕ) → index < length said → is_told (said_at said index) ≡ true → count_by (is_kind_of said index) (kinds_of said) ≡ 1
  pub all : sum_by (λ (kind : Kind). kind.records) (kinds_of said) ≡ count_by is_told said
  pub least : All (IsLeast said) (kinds_of said)
