-- How kinds are counted: of each record how many are of its kind, where it is the first; and what a report by kind is made
-- of.
-- Source: the code's own; it stands in no document.
use Rattle.std.specs.Prelude.{◌≡◌, ◌<◌, ◌==◌, ℕ, false, true, ◌++◌, Bool, List, [], Option, Some, None, bytes_eq, get_or, if◌then◌else◌, length, map}
use Rattle.std.specs.BTreeMap.{get_by}
use Rattle.std.specs.Cmp.Lexicographic.{slice_cmp}
use Rattle.std.specs.Ordering.{nat_cmp}
use Rattle.std.specs.List.{list_any, range_with_len}
use Rattle.ll_report.specs.Kinds.{is_first, records_like, said_at}
use Rattle.ll_report.specs.declared.kinds.Kinds.{Kinds}
use Rattle.ll_report.specs.Made.{Made}

-- how many records are of the kind of which the record at an index is the first
abbrev pub records_from : List (List ℕ) → ℕ → ℕ
records_from said index = if is_first said index then records_like said index else 0

abbrev pub counts_of : List (List ℕ) → List ℕ
counts_of said = map (records_from said) (range_with_len 0 (length said))

-- the first record of which this is said
abbrev pub IsFirstOf : List (List ℕ) → List ℕ → Option ℕ → Type 0
IsFirstOf said text (Some index) = (index < length said) × (said_at said index ≡ text) × (is_first said index ≡ true)
IsFirstOf said text None = (length text == 0) ≡ false → list_any (bytes_eq text) said ≡ false

-- the record that is found as the first of which this is said
abbrev pub found_first : Kinds → List ℕ → Option ℕ
found_first kinds text = get_by (λ key. slice_cmp nat_cmp text key.items) kinds.firsts

-- kinds are counted of records of which this is said
pub record AreCounted (said : List (List ℕ)) (kinds : Kinds) : Type 0 where
  pub counts : kinds.counts.items ≡ counts_of said
  pub firsts : (text : List ℕ) → IsFirstOf said text (found_first kinds text)

-- ---- rows by kind

-- the row of a kind stands where its first record has its own; the others have none
abbrev pub row_by_kind : (ℕ → ℕ → List ℕ) → Made → ℕ → List ℕ
row_by_kind head made index =
    if is_first made.shown index then head (records_like made.shown index) (get_or made.lines index 0) ++ said_at made.shown index else []

abbrev pub by_kind : (ℕ → ℕ → List ℕ) → Made → Made
by_kind head made = record {
  lines = made.lines;
  shown = map (row_by_kind head made) (range_with_len 0 (length made.shown));
  last = made.last;
}

-- the rows as they are, or by kind
abbrev pub grouped : (ℕ → ℕ → List ℕ) → Bool → Made → Made
grouped head kinds made = if kinds then by_kind head made else made
