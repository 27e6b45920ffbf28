-- Where bytes are cut at their first slash.
use Rattle.std.proofs.Common.{◌≡◌, ℕ, zero, suc, ◌+◌, ◌-◌, ◌<◌, ◌≤◌, List, [], ◌∷◌, length, take, drop}
use Rattle.std.proofs.Common.{eqb, true, false, refl, ap, ◌∙◌, arith, add-one, sym, subst}
use Rattle.std.specs.Prelude.{Bool, slice_index, ◌&&◌, not, codes}
use Rattle.std.specs.List.{list_all, slice_split, onto_first}
use Rattle.std.specs.Str.{bytes_eq}
use Rattle.std.proofs.lemmas.Bool.{and_left, and_right, true≢false}
use Rattle.std.proofs.lemmas.List.{take_rest}
use Rattle.std.proofs.lemmas.List.Splits.{slice_split-cons_yes, slice_split-cons_no}
use Rattle.ll_lines.specs.Paths.{is_slash, is_name_byte, is_name, Name}
use Rattle.ll_lines.proofs.PathLaws.{not_slash}

-- the first bytes may stand in a name
abbrev pub AreNameBytes : List ℕ → ℕ → Type 0
AreNameBytes bytes end = (k : ℕ) → k < end → is_name_byte (slice_index bytes k) ≡ true

first_is : (b : ℕ) (bytes : List ℕ) (end : ℕ) → AreNameBytes (b ∷ bytes) (suc end) → is_name_byte b ≡ true
first_is b bytes end are = are 0 (omega arith)

rest_are : (b : ℕ) (bytes : List ℕ) (end : ℕ) → AreNameBytes (b ∷ bytes) (suc end) → AreNameBytes bytes end
rest_are b bytes end are = λ k lt. are (suc k) (omega arith)

-- they do so one by one
pub named_before : (bytes : List ℕ) (end : ℕ) → end ≤ length bytes → AreNameBytes bytes end → list_all is_name_byte (take end bytes) ≡ true
named_before bytes zero le are = refl
named_before [] (suc end) le are = absurd (omega arith)
named_before (b ∷ bytes) (suc end) le are =
    rw (first_is b bytes end are, named_before bytes end (omega arith) (rest_are b bytes end are)) refl

split-cut : (bytes : List ℕ) (end : ℕ) → end < length bytes → is_slash (slice_index bytes end) ≡ true → AreNameBytes bytes end
    → slice_split is_slash bytes ≡ take end bytes ∷ slice_split is_slash (drop (suc end) bytes)
split-cut [] end lt here are = absurd (omega arith)
split-cut (b ∷ bytes) zero lt here are = slice_split-cons_yes is_slash b bytes here
split-cut (b ∷ bytes) (suc end) lt here are =
    slice_split-cons_no is_slash b bytes (not_slash b (first_is b bytes end are))
    ∙ ap (onto_first b) (split-cut bytes end (omega arith) here (rest_are b bytes end are))

split-uncut : (bytes : List ℕ) → AreNameBytes bytes (length bytes) → slice_split is_slash bytes ≡ bytes ∷ []
split-uncut [] are = refl
split-uncut (b ∷ bytes) are =
    slice_split-cons_no is_slash b bytes (not_slash b (first_is b bytes (length bytes) are))
    ∙ ap (onto_first b) (split-uncut bytes (rest_are b bytes (length bytes) are))

-- a byte that may not stand in a name is a slash, or the character of number 0
slash_or_zero : (b : ℕ) → is_name_byte b ≡ false → eqb b 0 ≡ false → is_slash b ≡ true
slash_or_zero b may_not other = elim (eqb b 47) as (λ t. (not t && not (eqb b 0)) ≡ false → t ≡ true) [
  | true ↦ λ h. refl
  | false ↦ λ h. absurd (true≢false (sym (rw other refl) ∙ h))
] may_not

-- at a slash behind bytes of a name
pub cut_at : (bytes : List ℕ) (end : ℕ) → end < length bytes → AreNameBytes bytes end → is_name_byte (slice_index bytes end) ≡ false
    → eqb (slice_index bytes end) 0 ≡ false
    → slice_split is_slash bytes ≡ take end bytes ∷ slice_split is_slash (take (length bytes - (end + 1)) (drop (end + 1) bytes))
cut_at bytes end lt are may_not other =
    rw (take_rest, add-one) (split-cut bytes end lt (slash_or_zero (slice_index bytes end) may_not other) are)

one_name : (b : Bool) → (b && true) ≡ b
one_name true = refl
one_name false = refl

-- where no slash stands
pub uncut : (bytes : List ℕ) → AreNameBytes bytes (length bytes) → list_all is_name (slice_split is_slash bytes) ≡ is_name bytes
uncut bytes are = rw (split-uncut bytes are) (one_name (is_name bytes))

-- the first part has a byte that may not stand in a name
abbrev BeginsBadly : List Name → Type 0
BeginsBadly [] = ⊥
BeginsBadly (name ∷ names) = list_all is_name_byte name ≡ false

bad_byte : (b : ℕ) (parts : List Name) → is_name_byte b ≡ false → BeginsBadly (onto_first b parts)
bad_byte b [] bad = rw bad refl
bad_byte b (name ∷ names) bad = rw bad refl

bad_behind : (b : ℕ) (parts : List Name) → BeginsBadly parts → BeginsBadly (onto_first b parts)
bad_behind b [] bad = absurd bad
bad_behind b (name ∷ names) bad = and_right (is_name_byte b) (list_all is_name_byte name) bad

begins_badly : (bytes : List ℕ) (end : ℕ) → end < length bytes → AreNameBytes bytes end → is_name_byte (slice_index bytes end) ≡ false
    → is_slash (slice_index bytes end) ≡ false → BeginsBadly (slice_split is_slash bytes)
begins_badly [] end lt are bad other = absurd (omega arith)
begins_badly (b ∷ bytes) zero lt are bad other =
    subst BeginsBadly (sym (slice_split-cons_no is_slash b bytes other)) (bad_byte b (slice_split is_slash bytes) bad)
begins_badly (b ∷ bytes) (suc end) lt are bad other =
    subst BeginsBadly (sym (slice_split-cons_no is_slash b bytes (not_slash b (first_is b bytes end are))))
    (bad_behind b (slice_split is_slash bytes) (begins_badly bytes end (omega arith) (rest_are b bytes end are) bad other))

no_name : (name : Name) → list_all is_name_byte name ≡ false → is_name name ≡ false
unfolding is_name
no_name name bad = and_right (not (eqb (length name) 0) && not (bytes_eq name (codes ".")) && not (bytes_eq name (codes ".."))) (list_all is_name_byte name) bad

no_names : (parts : List Name) → BeginsBadly parts → list_all is_name parts ≡ false
no_names [] bad = absurd bad
no_names (name ∷ names) bad = and_left (is_name name) (list_all is_name names) (no_name name bad)

has_bad : (bytes : List ℕ) (end : ℕ) → end < length bytes → is_name_byte (slice_index bytes end) ≡ false → list_all is_name_byte bytes ≡ false
has_bad [] end lt bad = absurd (omega arith)
has_bad (b ∷ bytes) zero lt bad = and_left (is_name_byte b) (list_all is_name_byte bytes) bad
has_bad (b ∷ bytes) (suc end) lt bad = and_right (is_name_byte b) (list_all is_name_byte bytes) (has_bad bytes end (omega arith) bad)

-- where the character of number 0 stands behind bytes of a name, neither the bytes nor the first part of them are a name
pub cut_at_zero : (bytes : List ℕ) (end : ℕ) → end < length bytes → AreNameBytes bytes end → slice_index bytes end ≡ 0
    → list_all is_name (slice_split is_slash bytes) ≡ is_name bytes
cut_at_zero bytes end lt are zero_there =
    let bad : is_name_byte (slice_index bytes end) ≡ false = rw zero_there refl in
    let other : is_slash (slice_index bytes end) ≡ false = rw zero_there refl in
    no_names (slice_split is_slash bytes) (begins_badly bytes end lt are bad other)
    ∙ sym (no_name bytes (has_bad bytes end lt bad))
