-- Spans that are spread out again give back what was said.
use Rattle.std.proofs.Common.{◌≡◌, ◌∙◌, ℕ, suc, ◌+◌, ◌-◌, ◌≤◌, Bool, true, false, List, [], ◌∷◌, ◌++◌, cond, map, refl, ap, append_assoc}
use Rattle.std.proofs.Common.{arith}
use Rattle.std.specs.List.{range_with_len}
use Rattle.std.specs.Str.{bytes_eq}
use Rattle.std.proofs.lemmas.List.Concat.{flat_map-cons}
use Rattle.std.proofs.lemmas.List.FromFn.{map-range_with_len_more}
use Rattle.std.proofs.lemmas.Slice.Eq.{bytes_eq-Decides}
use Rattle.ll_report.specs.Spans.{Span, all_spread_out, numbered_from, spans_from, spans_of, spread_out}

-- a span that goes on for a version more
goes_on : (span : Span) → span.first ≤ span.last
    → spread_out (record { first = span.first; last = span.last + 1; said = span.said }) ≡ spread_out span ++ (span.last + 1, span.said) ∷ []
goes_on span fits =
    let more : suc (span.last + 1) - span.first ≡ (suc span.last - span.first) + 1 = omega (arith, fits) in
    let said : ℕ → ℕ × List ℕ = λ number. (number, span.said) in
    ap (λ (n : ℕ). map said (range_with_len span.first n)) more
    ∙ map-range_with_len_more said span.first (suc span.last - span.first) (span.last + 1) (omega (arith, fits))

-- a span of one version
of_one : (number : ℕ) (said : List ℕ) → spread_out (record { first = number; last = number; said = said }) ≡ (number, said) ∷ []
of_one number said =
    let one : suc number - number ≡ 1 = omega arith in
    ap (λ (n : ℕ). map (λ (version : ℕ). (version, said)) (range_with_len number n)) one

from_span : (span : Span) (others : List (List ℕ)) → span.first ≤ span.last
    → all_spread_out (spans_from span others) ≡ spread_out span ++ numbered_from (span.last + 1) others
unfolding spans_from
from_span span [] fits = refl
from_span span (said ∷ others) fits = by_test (λ later within. from_span later others within) (bytes_eq span.said said) refl
  where
    longer : Span
    longer = record { first = span.first; last = span.last + 1; said = span.said }

    next : Span
    next = record { first = span.last + 1; last = span.last + 1; said = said }

    by_test : ((later : Span) → later.first ≤ later.last
        → all_spread_out (spans_from later others) ≡ spread_out later ++ numbered_from (later.last + 1) others)
        → (b : Bool) → bytes_eq span.said said ≡ b
        → all_spread_out (cond b (spans_from longer others) (span ∷ spans_from next others))
        ≡ spread_out span ++ (span.last + 1, said) ∷ numbered_from (span.last + 1 + 1) others
    by_test rest true same =
        rest longer (omega (arith, fits))
        ∙ ap (λ (xs : List (ℕ × List ℕ)). xs ++ numbered_from (span.last + 1 + 1) others)
        (goes_on span fits ∙ ap (λ (text : List ℕ). spread_out span ++ (span.last + 1, text) ∷ []) ((bytes_eq-Decides span.said said).0 same))
        ∙ append_assoc (spread_out span) ((span.last + 1, said) ∷ []) (numbered_from (span.last + 1 + 1) others)
    by_test rest false differs =
        flat_map-cons spread_out span (spans_from next others)
        ∙ ap (λ (xs : List (ℕ × List ℕ)). spread_out span ++ xs)
        (rest next (omega arith)
        ∙ ap (λ (xs : List (ℕ × List ℕ)). xs ++ numbered_from (span.last + 1 + 1) others) (of_one (span.last + 1) said))

pub spans_whole : (oldest : ℕ) (said : List (List ℕ)) → all_spread_out (spans_of oldest said) ≡ numbered_from oldest said
spans_whole oldest [] = refl
spans_whole oldest (said ∷ others) =
    from_span (record { first = oldest; last = oldest; said = said }) others (omega arith)
    ∙ ap (λ (xs : List (ℕ × List ℕ)). xs ++ numbered_from (oldest + 1) others) (of_one oldest said)
