-- What is said of a record under neighbouring versions: where it is the same, it is said once. Also what spans say under
-- each of their versions.
-- Source: docs/FORMATS.md, "Several versions".
use Rattle.std.specs.Prelude.{◌≡◌, ◌+◌, ◌-◌, ◌<◌, ◌≤◌, suc, ◌==◌, ◌++◌, ℕ, Bool, true, false, List, [], ◌∷◌, bytes_eq, codes, decimal}
use Rattle.std.specs.Prelude.{get_or, length, map, if◌then◌else◌}
use Rattle.std.specs.List.{flat_map, list_all, range_with_len, zip}
use Rattle.ll_report.specs.declared.spans.Form.{Form}
use Rattle.ll_report.specs.declared.spans.Form.TheVariants.{Answers, Explanations}

-- what is said under the versions from the first to the last
pub record Span : Type 0 where
  pub first : ℕ
  pub last : ℕ
  pub said : List ℕ

-- a span goes on for as long as the next version says the same
unfoldable pub spans_from : Span → List (List ℕ) → List Span
spans_from span [] = span ∷ []
spans_from span (said ∷ others) =
    if bytes_eq span.said said
    then spans_from (record { first = span.first; last = span.last + 1; said = span.said }) others
    else span ∷ spans_from (record { first = span.last + 1; last = span.last + 1; said = said }) others

-- the spans of what is said under neighbouring versions, of which the oldest has this number
abbrev pub spans_of : ℕ → List (List ℕ) → List Span
spans_of oldest [] = []
spans_of oldest (said ∷ others) = spans_from (record { first = oldest; last = oldest; said = said }) others

-- a span begins with a version and ends before another one: from it up to there the same is said, and then something else
pub record IsSpan (said : List (List ℕ)) (from end : ℕ) : Type 0 where
  pub some : from < end
  pub within : end ≤ length said
  pub same : (k : ℕ) → from ≤ k → k < end → get_or said from [] ≡ get_or said k []
  pub apart : end < length said → bytes_eq (get_or said from []) (get_or said end []) ≡ false

-- this span, where the oldest version has this number
abbrev pub span_at : ℕ → List (List ℕ) → ℕ → ℕ → Span
span_at oldest said from end = record { first = oldest + from; last = oldest + (end - 1); said = get_or said from [] }

-- the same is said under all versions
abbrev pub agree : List (List ℕ) → Bool
agree [] = true
agree (said ∷ others) = list_all (λ (other : List ℕ). bytes_eq said other) others

-- the numbers of the versions of a span
abbrev pub numbers_text : ℕ → ℕ → List ℕ
numbers_text first last = decimal first ++ (if first == last then [] else codes "-" ++ decimal last)

-- An answer is behind the numbers of its versions. An explanation is under them, and where nothing is to be
-- explained there is neither.
abbrev pub span_text : Form → Span → List ℕ
span_text Answers span = codes " " ++ numbers_text span.first span.last ++ codes " " ++ span.said
span_text Explanations span = under (numbers_text span.first span.last) span.said
  where
    under : List ℕ → List ℕ → List ℕ
    under numbers [] = []
    under numbers (byte ∷ bytes) = codes "    abi " ++ numbers ++ codes ":\n" ++ byte ∷ bytes

-- what all versions say is told without their numbers
abbrev pub alone_text : Form → List ℕ → List ℕ
alone_text Answers said = codes " " ++ said
alone_text Explanations said = said

-- what is said under neighbouring versions
abbrev pub versions_text : Form → ℕ → List (List ℕ) → List ℕ
versions_text form oldest [] = []
versions_text form oldest (said ∷ others) =
    if agree (said ∷ others) then alone_text form said else flat_map (span_text form) (spans_of oldest (said ∷ others))

-- ---- what spans say under each of their versions

-- the versions of a span, by their numbers, each with what is said under it
abbrev pub spread_out : Span → List (ℕ × List ℕ)
spread_out span = map (λ number. (number, span.said)) (range_with_len span.first (suc span.last - span.first))

-- the versions of spans, each with what is said under it
abbrev pub all_spread_out : List Span → List (ℕ × List ℕ)
all_spread_out spans = flat_map spread_out spans

-- neighbouring versions, of which the oldest has this number, each with what is said under it
abbrev pub numbered_from : ℕ → List (List ℕ) → List (ℕ × List ℕ)
numbered_from oldest said = zip (range_with_len oldest (length said)) said
