-- What versions find alike of a record, and marks of the records about which they may differ.
-- Source: docs/FORMATS.md, "Several versions"; the marks are the code's own.
use Rattle.std.specs.Prelude.{◌≡◌, ◌∷◌, [], ℕ, Bool, false, List, Some, All, slice_get}
use Rattle.ll_findings.specs.Findings.{FindingValue, answer_in, kept_at}

-- a finding has the same of the record at an index as another one: the answer, and what is kept of the explanation
abbrev pub FindsAs : FindingValue → ℕ → FindingValue → Type 0
FindsAs one index finding = (answer_in finding index ≡ answer_in one index) × (kept_at finding index ≡ kept_at one index)

-- there is a version, and all find the same
abbrev pub AreAlike : List FindingValue → ℕ → Type 0
AreAlike [] index = ⊥
AreAlike (first ∷ others) index = All (FindsAs first index) others

-- ---- marks

-- the mark of the record at an index says that versions find the same
abbrev pub IsUnmarked : List Bool → ℕ → Type 0
IsUnmarked marks index = slice_get marks index ≡ Some false

-- a record that is unmarked now was unmarked before, and this holds of its index
abbrev pub MarksUnless : (ℕ → Type 0) → List Bool → List Bool → Type 0
MarksUnless Holds before now = (index : ℕ) → IsUnmarked now index → IsUnmarked before index × Holds index

-- versions find the same of each record that is unmarked
abbrev pub AreMarked : List FindingValue → List Bool → Type 0
AreMarked findings marks = (index : ℕ) → IsUnmarked marks index → AreAlike findings index
