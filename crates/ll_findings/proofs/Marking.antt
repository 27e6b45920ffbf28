-- Marks of the records about which versions may differ.
use Rattle.std.proofs.Common.{◌≡◌, ◌≢◌, ◌∙◌, ℕ, suc, Bool, List, [], ◌∷◌, Option, None, refl, sym, ap, subst}
use Rattle.std.specs.Prelude.{option_map, unwrap_or}
use Rattle.std.specs.List.{All}
use Rattle.std.proofs.lemmas.List.Elements.{All-cons, All-head, All-nil, All-tail, All-weaker}
use Rattle.ll_semantics.specs.declared.answer.Answer.{Answer}
use Rattle.ll_semantics.specs.declared.answer.Answer.TheVariants.{Moot}
use Rattle.ll_findings.specs.Alike.{AreAlike, AreMarked, FindsAs, MarksUnless}
use Rattle.ll_findings.specs.Findings.{FindingValue, answer_in, kept_at, with_changes}
use Rattle.ll_findings.specs.Overlays.{where_in}
use Rattle.ll_explanations.specs.declared.explanation.Explanation.{Explanation}
use Rattle.ll_findings.proofs.Overlaying.{as_in_base}
use Rattle.ll_findings.proofs.Rising.{skipped}

-- ---- what is found of a record without a change is what the base has

none_listed : (index : ℕ) (indices : List ℕ) → All (λ (at : ℕ). at ≢ index) indices → where_in index indices ≡ None
unfolding where_in
none_listed index [] others = refl
none_listed index (first ∷ indices) others =
    skipped index first indices (All-head (λ (at : ℕ). at ≢ index) first indices others)
    ∙ ap (option_map suc) (none_listed index indices (All-tail (λ (at : ℕ). at ≢ index) first indices others))

answer_of_base : (base changes : FindingValue) (indices : List ℕ) (index : ℕ) → where_in index indices ≡ None
    → answer_in (with_changes base indices changes) index ≡ answer_in base index
answer_of_base base changes indices index none =
    ap (λ (o : Option Answer). unwrap_or o Moot) (as_in_base changes.answers base.answers indices index none)

kept_of_base : (base changes : FindingValue) (indices : List ℕ) (index : ℕ) → where_in index indices ≡ None
    → kept_at (with_changes base indices changes) index ≡ kept_at base index
kept_of_base base changes indices index none =
    ap (λ (o : Option (Option Explanation)). unwrap_or o None) (as_in_base changes.explanations base.explanations indices index none)

-- Two findings are kept as changes to one base, and the indices of the changes of both are marked.
pub both_marked : (base changes others : FindingValue) (indices newer : List ℕ) (before between now : List Bool)
    → MarksUnless (λ at. All (λ (index : ℕ). index ≢ at) indices) before between
    → MarksUnless (λ at. All (λ (index : ℕ). index ≢ at) newer) between now
    → MarksUnless (λ at. FindsAs (with_changes base indices changes) at (with_changes base newer others)) before now
both_marked base changes others indices newer before between now first second = λ at is.
    let later = second at is in
    let earlier = first at later.0 in
    let unlisted = none_listed at newer later.1 in
    let unchanged = none_listed at indices earlier.1 in (
      earlier.0,
      (
        answer_of_base base others newer at unlisted ∙ sym (answer_of_base base changes indices at unchanged),
        kept_of_base base others newer at unlisted ∙ sym (kept_of_base base changes indices at unchanged),
      ),
    )

-- ---- marks for all versions

-- what is found under the first version
pub first_marked : (finding : FindingValue) (newer all : List FindingValue) (marks : List Bool) → newer ≡ [] → all ≡ finding ∷ newer → AreMarked all marks
first_marked finding newer all marks none is =
    subst (λ (findings : List FindingValue). AreMarked findings marks) (sym (is ∙ ap (λ (findings : List FindingValue). finding ∷ findings) none))
    (λ index unmarked. All-nil (FindsAs finding index))

-- what is found under a version that is older than the others
pub older_marked : (finding first : FindingValue) (others newer all : List FindingValue) (before now : List Bool) → newer ≡ first ∷ others
    → all ≡ finding ∷ newer → AreMarked newer before → MarksUnless (λ at. FindsAs finding at first) before now → AreMarked all now
older_marked finding first others newer all before now front is are marks =
    subst (λ (findings : List FindingValue). AreMarked findings now) (sym (is ∙ ap (λ (findings : List FindingValue). finding ∷ findings) front))
    (λ index unmarked.
    let marked = marks index unmarked in
    let same : FindsAs finding index first = marked.1 in
    let alike : AreAlike (first ∷ others) index = subst (λ (findings : List FindingValue). AreAlike findings index) front (are index marked.0) in
    All-cons (FindsAs finding index) first others same
    (All-weaker (FindsAs first index) (FindsAs finding index) (λ (other : FindingValue) found. (found.0 ∙ same.0, found.1 ∙ same.1)) others alike))
