-- The versions of a range have the numbers from its oldest to its newest.
use Rattle.std.proofs.Common.{◌≡◌, ◌∙◌, ◌≤◌, ◌<◌, ◌+◌, ◌-◌, ◌&&◌, ℕ, zero, suc, Bool, true, false, List, [], ◌∷◌, cond, arith, ap, refl, sym, inl, inr}
use Rattle.std.proofs.Common.{lit≤, length, map}
use Rattle.std.specs.Prelude.{filter, nat_le}
use Rattle.std.specs.List.{range_with_len}
use Rattle.std.proofs.lemmas.Bool.{le-leb}
use Rattle.std.proofs.lemmas.Bool.Decides.{leb_tells}
use Rattle.std.proofs.lemmas.List.{length-map}
use Rattle.std.proofs.lemmas.List.FromFn.{length-range_with_len}
use Rattle.ll_rights.specs.declared.abi.Abi.{Abi}
use Rattle.ll_rights.specs.declared.abi.Abi.TheVariants.{V1}
use Rattle.ll_rights.specs.Abis.{all_versions, number_of}
use Rattle.ll_rights.specs.AbiRanges.{IsRising, Range, versions_in}

-- the numbers of the versions whose numbers pass a test
filter-numbers : (test : ℕ → Bool) (versions : List Abi)
    → map number_of (filter (λ abi. test (number_of abi)) versions) ≡ filter test (map number_of versions)
filter-numbers test [] = refl
filter-numbers test (abi ∷ others) = by_test (test (number_of abi)) (filter-numbers test others)
  where
    by_test : (b : Bool) → map number_of (filter (λ abi. test (number_of abi)) others) ≡ filter test (map number_of others)
        → map number_of (cond b (abi ∷ filter (λ abi. test (number_of abi)) others) (filter (λ abi. test (number_of abi)) others))
        ≡ cond b (number_of abi ∷ filter test (map number_of others)) (filter test (map number_of others))
    by_test true rest = ap (λ (numbers : List ℕ). number_of abi ∷ numbers) rest
    by_test false rest = rest

module _ (low high : ℕ) where
  abbrev between : ℕ → Bool
  between number = nat_le low number && nat_le number high

  -- of numbers that aren't below the low end
  above_low : (from count : ℕ) → low ≤ from → high < from + count → filter between (range_with_len from count) ≡ range_with_len from (suc high - from)
  above_low from zero above below = (let none : suc high - from ≡ 0 = omega (arith, below) in rw none refl)
  above_low from (suc count) above below = elim (leb_tells from high) [
    | inl within ↦
        let more : suc high - from ≡ suc (suc high - (from + 1)) = omega (arith, within.1) in
        rw (le-leb low from above, within.0, more)
        (ap (λ (numbers : List ℕ). from ∷ numbers) (above_low (from + 1) count (omega (arith, above)) (omega (arith, below))))
    | inr past ↦
        let none : suc high - from ≡ 0 = omega (arith, past.1) in
        let none_later : suc high - (from + 1) ≡ 0 = omega (arith, past.1) in
        rw (le-leb low from above, past.0, none)
        (above_low (from + 1) count (omega (arith, above)) (omega (arith, below)) ∙ ap (range_with_len (from + 1)) none_later)
  ]

  -- of numbers that begin at or below the low end
  from_below : (from count : ℕ) → from ≤ low → high < from + count → filter between (range_with_len from count) ≡ range_with_len low (suc high - low)
  from_below from zero low_enough below = (let none : suc high - low ≡ 0 = omega (arith, low_enough, below) in rw none refl)
  from_below from (suc count) low_enough below = elim (leb_tells low from) [
    | inl reached ↦
        let same : from ≡ low = omega (arith, low_enough, reached.1) in
        above_low from (suc count) reached.1 below ∙ ap (λ (n : ℕ). range_with_len n (suc high - n)) same
    | inr before ↦ rw before.0 (from_below (from + 1) count (omega (arith, before.1)) (omega (arith, below)))
  ]

-- the versions are numbered from 1, and none has a higher number than there are versions
all_numbered : map number_of all_versions ≡ range_with_len 1 (length all_versions)
unfolding all_versions
all_numbered = refl

numbered_from_one : (abi : Abi) → 1 ≤ number_of abi
numbered_from_one V1 = lit≤ tt
numbered_from_one abi = lit≤ tt

numbered_within : (abi : Abi) → number_of abi ≤ length all_versions
unfolding all_versions
numbered_within V1 = lit≤ tt
numbered_within abi = lit≤ tt

pub versions_numbered : (range : Range) → map number_of (versions_in range)
    ≡ range_with_len (number_of range.oldest) (suc (number_of range.newest) - number_of range.oldest)
unfolding versions_in
versions_numbered range =
    filter-numbers (between (number_of range.oldest) (number_of range.newest)) all_versions
    ∙ ap (filter (between (number_of range.oldest) (number_of range.newest))) all_numbered
    ∙ from_below (number_of range.oldest) (number_of range.newest) 1 (length all_versions) (numbered_from_one range.oldest)
    (omega (arith, numbered_within range.newest))

versions_counted : (range : Range) → length (versions_in range) ≡ suc (number_of range.newest) - number_of range.oldest
versions_counted range =
    sym (length-map (versions_in range) number_of)
    ∙ ap length (versions_numbered range)
    ∙ length-range_with_len (number_of range.oldest) (suc (number_of range.newest) - number_of range.oldest)

pub versions_from : (range : Range) → map number_of (versions_in range) ≡ range_with_len (number_of range.oldest) (length (versions_in range))
versions_from range = versions_numbered range ∙ ap (range_with_len (number_of range.oldest)) (sym (versions_counted range))

pub at_least_one : (range : Range) → IsRising range → 1 ≤ length (versions_in range)
at_least_one range rising = omega (arith, rising, versions_counted range)

-- there are few versions, and their numbers are small
pub small_number : (abi : Abi) → number_of abi ≤ 64
small_number V1 = lit≤ tt
small_number abi = lit≤ tt

pub few_versions : length all_versions ≤ 64
unfolding all_versions
few_versions = lit≤ tt
