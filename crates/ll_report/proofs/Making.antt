-- The rows of a report, one after another.
use Rattle.std.proofs.Common.{◌≡◌, ◌∙◌, ℕ, zero, suc, true, false, Some, ◌+◌, ◌<◌, ◌≤◌, List, [], ◌∷◌, ◌++◌, refl, sym, ap, ap₂, append_assoc, arith}
use Rattle.std.proofs.Common.{get_or, length, drop, slice_get}
use Rattle.std.specs.Prelude.{nat_lt, unwrap_or}
use Rattle.std.proofs.lemmas.Bool.{ltb-false, ltb-true}
use Rattle.std.specs.List.{flat_map}
use Rattle.std.proofs.lemmas.List.{drop_more, drop_all}
use Rattle.std.proofs.lemmas.List.Concat.{flat_map-cons}
use Rattle.std.proofs.lemmas.Option.{slice_get-get_or, slice_get_past, unwrap_or-slice_get}
use Rattle.ll_trace.specs.declared.op.Record.{Record}
use Rattle.ll_explain.specs.Buffers.{Buffered, adding}
use Rattle.ll_explain.proofs.Buffering.{adding_nothing}
use Rattle.ll_report.specs.Made.{Made, line_numbers, part_at, row_at, rows_of}

-- what the report has from an index on
abbrev pub left : Made → ℕ → List ℕ
left made index = flat_map (λ row. row) (drop index made.shown) ++ made.last

pub left_next : (made : Made) (index : ℕ) → index < length made.shown → left made index ≡ row_at made index ++ left made (index + 1)
left_next made index below =
    ap (λ rows. flat_map (λ row. row) rows ++ made.last) (drop_more made.shown index [] below)
    ∙ ap (λ text. text ++ made.last) (flat_map-cons (λ row. row) (get_or made.shown index []) (drop (index + 1) made.shown))
    ∙ append_assoc (get_or made.shown index []) (flat_map (λ row. row) (drop (index + 1) made.shown)) made.last
    ∙ ap (λ row. row ++ left made (index + 1)) (sym (unwrap_or-slice_get made.shown index []))

pub left_last : (made : Made) (index : ℕ) → length made.shown ≤ index → left made index ≡ made.last
left_last made index past = ap (λ rows. flat_map (λ row. row) rows ++ made.last) (drop_all index made.shown past)

pub part_row : (made : Made) (index : ℕ) → index < length made.shown → part_at made index ≡ row_at made index
part_row made index below =
    ap (λ found. unwrap_or found made.last) (slice_get-get_or made.shown index [] below) ∙ sym (unwrap_or-slice_get made.shown index [])

pub part_last : (made : Made) (index : ℕ) → length made.shown ≤ index → part_at made index ≡ made.last
part_last made index past = ap (λ found. unwrap_or found made.last) (slice_get_past made.shown index past)

-- as many rows as records
pub length-rows : (row : ℕ → Record → List ℕ) (index : ℕ) (records : List Record) → length (rows_of row index records) ≡ length records
unfolding rows_of
length-rows row index [] = refl
length-rows row index (r ∷ others) = ap suc (length-rows row (index + 1) others)

-- the row of a record
pub row_is : (row : ℕ → Record → List ℕ) (index k : ℕ) (records : List Record) (r : Record) → slice_get records k ≡ Some r
    → slice_get (rows_of row index records) k ≡ Some (row (index + k) r)
unfolding rows_of
row_is row index k [] r is = cc
row_is row index zero (first ∷ others) r is = ap₂ (λ n x. Some (row n x)) (omega arith) (ap (λ o. unwrap_or o first) is)
row_is row index (suc k) (first ∷ others) r is =
    let next : index + 1 + k ≡ index + suc k = omega arith in
    row_is row (index + 1) k others r is ∙ ap (λ n. Some (row n r)) next

-- rows that are the same for each record
pub rows_same : (f g : ℕ → Record → List ℕ) → ((k : ℕ) (r : Record) → f k r ≡ g k r) → (index : ℕ) (records : List Record)
    → rows_of f index records ≡ rows_of g index records
unfolding rows_of
rows_same f g same index [] = refl
rows_same f g same index (r ∷ others) = ap₂ (λ row rows. row ∷ rows) (same index r) (rows_same f g same (index + 1) others)

pub next_rows : (row : ℕ → Record → List ℕ) (index : ℕ) (r : Record) (others : List Record)
    → flat_map (λ x. x) (rows_of row index (r ∷ others)) ≡ row index r ++ flat_map (λ x. x) (rows_of row (index + 1) others)
unfolding rows_of
next_rows row index r others = flat_map-cons (λ (x : List ℕ). x) (row index r) (rows_of row (index + 1) others)

-- what rows of records are made of
module _ (row : ℕ → Record → List ℕ) (records : List Record) (last : List ℕ) (made : Made)
    (is : record { lines = line_numbers records; shown = rows_of row 0 records; last = last } ≡ made) where
  pub as_many : length made.shown ≡ length records
  as_many = sym (ap (λ (m : Made). length m.shown) is) ∙ length-rows row 0 records

  -- a row is added where its record is found by its index, and nothing where there is none
  module _ (index : ℕ) (found : List Record) (are : found ≡ records) (text : Buffered) where
    pub row_added : (after : Buffered) (r : Record) → true ≡ nat_lt index (length found) → r ≡ get_or found index r → after ≡ adding text (row index r)
        → after ≡ adding text (row_at made index)
    row_added after r below here added =
        let there : slice_get found index ≡ Some r =
        slice_get-get_or found index r (ltb-true index (length found) (sym below)) ∙ ap (λ x. Some x) (sym here) in
        let same : 0 + index ≡ index = omega arith in
        added
        ∙ ap (λ n. adding text (row n r)) (sym same)
        ∙ ap (λ x. adding text (unwrap_or x [])) (sym (row_is row 0 index records r (ap (λ rs. slice_get rs index) (sym are) ∙ there)))
        ∙ ap (λ (m : Made). adding text (row_at m index)) is

    pub nothing_added : false ≡ nat_lt index (length found) → text ≡ adding text (row_at made index)
    nothing_added past =
        let behind : length made.shown ≤ index = omega (arith, as_many, ltb-false index (length found) (sym past), ap length are) in
        adding_nothing text ∙ ap (λ x. adding text (unwrap_or x [])) (sym (slice_get_past made.shown index behind))
