-- What is said under the versions that are left.
use Rattle.std.proofs.Common.{◌≡◌, ◌∙◌, ℕ, ◌+◌, ◌<◌, true, false, List, [], ◌∷◌, length, drop, get_or, refl, sym, ap, ap₂}
use Rattle.std.proofs.Common.{add-one}
use Rattle.std.specs.Prelude.{bytes_eq}
use Rattle.std.proofs.Math.Seq.{drop-cons}
use Rattle.ll_report.specs.Spans.{Span, spans_from}

-- the next of some elements, and those behind it
pub next_of : {X : Type 0} (xs : List X) (k : ℕ) (x : X) → k < length xs → x ≡ get_or xs k x → drop k xs ≡ x ∷ drop (k + 1) xs
next_of xs k x below is = drop-cons xs k x below ∙ ap₂ (λ y ys. y ∷ ys) (sym is) (ap (λ (n : ℕ). drop n xs) (sym (add-one k)))

pub spans_from-same : (first last : ℕ) (current next : List ℕ) (others : List (List ℕ)) → bytes_eq current next ≡ true
    → spans_from (record { first = first; last = last; said = current }) (next ∷ others)
    ≡ spans_from (record { first = first; last = last + 1; said = current }) others
unfolding spans_from
spans_from-same first last current next others same = rw same refl

pub spans_from-other : (first last : ℕ) (current next : List ℕ) (others : List (List ℕ)) → bytes_eq current next ≡ false
    → spans_from (record { first = first; last = last; said = current }) (next ∷ others)
    ≡ record { first = first; last = last; said = current } ∷ spans_from (record { first = last + 1; last = last + 1; said = next }) others
unfolding spans_from
spans_from-other first last current next others differs = rw differs refl

pub spans_from-last : (span : Span) → spans_from span [] ≡ span ∷ []
unfolding spans_from
spans_from-last span = refl
