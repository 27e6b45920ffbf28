-- The row at an index, by kind.
use Rattle.std.proofs.Common.{◌≡◌, ◌∙◌, ◌+◌, ◌<◌, ◌≤◌, ◌++◌, ℕ, Bool, true, false, cond, List, [], ◌∷◌, get_or, length, take, refl, sym, ap, ap₂, arith}
use Rattle.std.specs.Prelude.{bytes_eq, if◌then◌else◌}
use Rattle.std.proofs.lemmas.List.{take_more}
use Rattle.std.proofs.lemmas.List.FromFn.{get_or-map-range_with_len, length-map-range_with_len}
use Rattle.std.proofs.lemmas.List.Sums.{get_or-le-sum_by}
use Rattle.std.proofs.lemmas.Option.{unwrap_or-slice_get}
use Rattle.std.specs.Cmp.Lexicographic.{nat_list_eq_equiv}
use Rattle.ll_report.specs.Counted.{by_kind, counts_of, grouped, records_from, row_by_kind}
use Rattle.ll_report.specs.Kinds.{is_first, records_like, said_at}
use Rattle.ll_report.specs.Made.{Made, row_at}

-- a row is the element at its index
pub row_as_element : (made : Made) (index : ℕ) → row_at made index ≡ get_or made.shown index []
row_as_element made index = unwrap_or-slice_get made.shown index []

-- with one row more
pub rows_more : (made : Made) (index : ℕ) → index < length made.shown
    → take index made.shown ++ row_at made index ∷ [] ≡ take (index + 1) made.shown
rows_more made index below =
    ap (λ (row : List ℕ). take index made.shown ++ row ∷ []) (row_as_element made index) ∙ sym (take_more made.shown index [] below)

-- a record is of its own kind
like_itself : (said : List (List ℕ)) (index : ℕ) → index < length said → 1 ≤ records_like said index
like_itself said index below =
    let least = get_or-le-sum_by (λ (text : List ℕ). cond {A = ℕ} (bytes_eq (said_at said index) text) 1 0) said index [] below in
    omega (arith, least, ap (λ (b : Bool). cond {A = ℕ} b 1 0) (nat_list_eq_equiv.refl (said_at said index)))

-- a count for each row
pub length-counts : (said : List (List ℕ)) (counts : List ℕ) → counts ≡ counts_of said → length counts ≡ length said
length-counts said counts are = ap length are ∙ length-map-range_with_len (records_from said) 0 (length said)

-- as many rows by kind, or as they are
pub length-by_kind : (head : ℕ → ℕ → List ℕ) (made : Made) → length (by_kind head made).shown ≡ length made.shown
length-by_kind head made = length-map-range_with_len (row_by_kind head made) 0 (length made.shown)

pub length-grouped : (head : ℕ → ℕ → List ℕ) (kinds : Bool) (made : Made) → length (grouped head kinds made).shown ≡ length made.shown
length-grouped head true made = length-by_kind head made
length-grouped head false made = refl

module _ (head : ℕ → ℕ → List ℕ) (made : Made) (counts : List ℕ) (are : counts ≡ counts_of made.shown) (index : ℕ) (below : index < length made.shown)
    (count : ℕ) (read : count ≡ get_or counts index 0) where
  pub count_is : count ≡ records_from made.shown index
  count_is =
      read ∙ ap (λ (all : List ℕ). get_or all index 0) are
      ∙ get_or-map-range_with_len (records_from made.shown) 0 (length made.shown) index index 0 below (omega arith)

  row_is : row_at (by_kind head made) index ≡ row_by_kind head made index
  row_is =
      row_as_element (by_kind head made) index
      ∙ get_or-map-range_with_len (row_by_kind head made) 0 (length made.shown) index index [] below (omega arith)

  abbrev row_if : Bool → List ℕ
  row_if b = if b then head (records_like made.shown index) (get_or made.lines index 0) ++ said_at made.shown index else []

  pub no_row_here : count ≡ 0 → row_at (by_kind head made) index ≡ []
  no_row_here none = row_is ∙ go (is_first made.shown index) refl
    where
      go : (b : Bool) → is_first made.shown index ≡ b → row_if (is_first made.shown index) ≡ []
      go false is = ap row_if is
      go true is =
          let counted : count ≡ records_like made.shown index = count_is ∙ ap (λ (b : Bool). if b then records_like made.shown index else 0) is in
          absurd (omega (arith, counted, none, like_itself made.shown index below))

  pub row_here : (count ≡ 0 → ⊥) → row_at (by_kind head made) index ≡ head count (get_or made.lines index 0) ++ row_at made index
  row_here some = row_is ∙ go (is_first made.shown index) refl
    where
      go : (b : Bool) → is_first made.shown index ≡ b
          → row_if (is_first made.shown index) ≡ head count (get_or made.lines index 0) ++ row_at made index
      go true is =
          let counted : count ≡ records_like made.shown index = count_is ∙ ap (λ (b : Bool). if b then records_like made.shown index else 0) is in
          ap row_if is
          ∙ ap₂ (λ (n : ℕ) (row : List ℕ). head n (get_or made.lines index 0) ++ row) (sym counted) (sym (row_as_element made index))
      go false is =
          let none : count ≡ 0 = count_is ∙ ap (λ (b : Bool). if b then records_like made.shown index else 0) is in
          absurd (some none)
