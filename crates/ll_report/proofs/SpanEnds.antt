-- Where spans end, and what is said in them.
use Rattle.std.proofs.Common.{◌≡◌, ◌∙◌, ℕ, zero, suc, ◌+◌, ◌-◌, ◌<◌, ◌≤◌, Bool, true, false, List, [], ◌∷◌, All, get_or, length, drop, refl, sym, ap, ap₂}
use Rattle.std.proofs.Common.{arith, cond, inl, inr}
use Rattle.std.specs.Prelude.{◌&&◌, bytes_eq}
use Rattle.std.specs.List.{flat_map, list_all}
use Rattle.std.proofs.Math.Dec.{eqb}
use Rattle.std.proofs.lemmas.Bool.{cases_lt, eq-eqb, ne_eqb}
use Rattle.std.proofs.lemmas.List.{drop_all, drop_more, length-map}
use Rattle.std.proofs.lemmas.List.Concat.{flat_map-cons}
use Rattle.std.proofs.lemmas.List.Elements.{All-head, All-tail}
use Rattle.std.proofs.lemmas.Slice.Eq.{bytes_eq-Decides}
use Rattle.ll_tree.specs.Trees.{Entry}
use Rattle.ll_trace.specs.declared.op.Record.{Record}
use Rattle.ll_findings.specs.Alike.{AreAlike, FindsAs}
use Rattle.ll_findings.specs.Findings.{FindingValue}
use Rattle.ll_explain.specs.Buffers.{Buffered, adding}
use Rattle.ll_explain.proofs.Buffering.{adding_nothing, goes_on}
use Rattle.ll_report.specs.declared.findings_at.FindingsAt.{FindingsAt}
use Rattle.ll_report.specs.declared.spans.Form.{Form}
use Rattle.ll_report.specs.declared.spans.Form.TheVariants.{Explanations}
use Rattle.ll_report.specs.Printed.{Printing, printed_of, printed_under, texts_of}
use Rattle.ll_report.specs.Spans.{IsSpan, Span, agree, alone_text, span_at, span_text, spans_from, spans_of, versions_text}
use Rattle.ll_report.proofs.SpansLeft.{spans_from-last, spans_from-other, spans_from-same}

-- as many texts as versions
pub each_printed : (printed : Printing) (row : FindingsAt) → length (texts_of printed row) ≡ length row.findings.now
each_printed printed row = length-map row.findings.now (λ f. printed_of printed row.tree.now row.records.now row.index f)

-- ---- versions that find the same

module _ (printed : Printing) (tree : List Entry) (records : List Record) (index : ℕ) where
  behind_first : (first : FindingValue) (others : List FindingValue) → All (FindsAs first index) others → (k : ℕ) → k < length others
      → get_or (printed_under printed tree records others index) k [] ≡ printed_of printed tree records index first
  behind_first first [] are k below = absurd (omega (arith, below))
  behind_first first (other ∷ more) are zero below =
      let same : FindsAs first index other = All-head (FindsAs first index) other more are in
      ap₂ (printed tree records index) same.0 same.1
  behind_first first (other ∷ more) are (suc k) below =
      behind_first first more (All-tail (FindsAs first index) other more are) k (omega (arith, below))

  as_first : (first : FindingValue) (others : List FindingValue) → All (FindsAs first index) others → (k : ℕ) → k < length (first ∷ others)
      → get_or (printed_under printed tree records (first ∷ others) index) k [] ≡ printed_of printed tree records index first
  as_first first others are zero below = refl
  as_first first others are (suc k) below = behind_first first others are k (omega (arith, below))

  -- they are all in one span
  pub alike_span : (findings : List FindingValue) (from : ℕ) → AreAlike findings index → from < length findings
      → IsSpan (printed_under printed tree records findings index) from (length findings)
  alike_span [] from are below = absurd (omega (arith, below))
  alike_span (first ∷ others) from are below =
      let many = length-map (first ∷ others) (λ (f : FindingValue). printed_of printed tree records index f) in
      record {
        some = below;
        within = omega (arith, many);
        same = λ k at before. as_first first others are from below ∙ sym (as_first first others are k before);
        apart = λ past. absurd (omega (arith, past, many));
      }

-- ---- one span more

module _ (oldest : ℕ) (texts : List (List ℕ)) (from end : ℕ) (is : IsSpan texts from end) where
  abbrev said : List ℕ
  said = get_or texts from []

  abbrev so_far : ℕ → Span
  so_far last = record { first = oldest + from; last = last; said = said }

  abbrev later_spans : List Span
  later_spans = spans_of (oldest + end) (drop end texts)

  ended : (last : ℕ) → last + 1 ≡ oldest + end → spans_from (so_far last) (drop end texts) ≡ span_at oldest texts from end ∷ later_spans
  ended last numbered =
      let last_is : last ≡ oldest + (end - 1) = omega (arith, numbered, is.some) in
      elim (cases_lt end (length texts)) [
        | inl below ↦
            let next : List ℕ = get_or texts end [] in
            let rest : List (List ℕ) = drop (end + 1) texts in
            ap (spans_from (so_far last)) (drop_more texts end [] below)
            ∙ spans_from-other (oldest + from) last said next rest (is.apart below)
            ∙ ap₂ (λ (l n : ℕ). so_far l ∷ spans_from (record { first = n; last = n; said = next }) rest) last_is numbered
            ∙ sym (ap (λ (left : List (List ℕ)). span_at oldest texts from end ∷ spans_of (oldest + end) left) (drop_more texts end [] below))
        | inr past ↦
            ap (spans_from (so_far last)) (drop_all end texts past)
            ∙ spans_from-last (so_far last)
            ∙ ap (λ (l : ℕ). so_far l ∷ []) last_is
            ∙ sym (ap (λ (left : List (List ℕ)). span_at oldest texts from end ∷ spans_of (oldest + end) left) (drop_all end texts past))
      ]

  going : (n k last : ℕ) → k + n ≡ end → from < k → last + 1 ≡ oldest + k
      → spans_from (so_far last) (drop k texts) ≡ span_at oldest texts from end ∷ later_spans
  going zero k last reached later numbered =
      let here : k ≡ end = omega (arith, reached) in
      ap (λ (i : ℕ). spans_from (so_far last) (drop i texts)) here ∙ ended last (omega (arith, numbered, here))
  going (suc n) k last reached later numbered =
      let below : k < length texts = omega (arith, reached, is.within) in
      let same : bytes_eq said (get_or texts k []) ≡ true =
      (bytes_eq-Decides said (get_or texts k [])).1 (is.same k (omega (arith, later)) (omega (arith, reached))) in
      ap (spans_from (so_far last)) (drop_more texts k [] below)
      ∙ spans_from-same (oldest + from) last said (get_or texts k []) (drop (k + 1) texts) same
      ∙ going n (k + 1) (last + 1) (omega (arith, reached)) (omega (arith, later)) (omega (arith, numbered))

  pub next_span : spans_of (oldest + from) (drop from texts) ≡ span_at oldest texts from end ∷ later_spans
  next_span =
      ap (spans_of (oldest + from)) (drop_more texts from [] (omega (arith, is.some, is.within)))
      ∙ going (end - (from + 1)) (from + 1) (oldest + from) (omega (arith, is.some)) (omega arith) (omega arith)

-- ---- whether all agree

abbrev rest_agrees : List (List ℕ) → ℕ → Bool
rest_agrees texts version = list_all (λ (other : List ℕ). bytes_eq (get_or texts 0 []) other) (drop version texts)

agree_rest : (texts : List (List ℕ)) → agree texts ≡ rest_agrees texts 1
agree_rest [] = refl
agree_rest (text ∷ others) = refl

module _ (texts : List (List ℕ)) (end : ℕ) (is : IsSpan texts 0 end) where
  next_agrees : (version : ℕ) → version < length texts → (same : Bool) → bytes_eq (get_or texts 0 []) (get_or texts version []) ≡ same
      → rest_agrees texts version ≡ (same && rest_agrees texts (version + 1))
  next_agrees version below same found =
      ap (list_all (λ (other : List ℕ). bytes_eq (get_or texts 0 []) other)) (drop_more texts version [] below)
      ∙ ap (λ (b : Bool). b && rest_agrees texts (version + 1)) found

  to_the_end : (n k : ℕ) → k + n ≡ end → rest_agrees texts k ≡ rest_agrees texts end
  to_the_end zero k reached = ap (rest_agrees texts) (omega (arith, reached))
  to_the_end (suc n) k reached =
      next_agrees k (omega (arith, reached, is.within)) true
      ((bytes_eq-Decides (get_or texts 0 []) (get_or texts k [])).1 (is.same k (omega arith) (omega (arith, reached))))
      ∙ to_the_end n (k + 1) (omega (arith, reached))

  agree_end : agree texts ≡ rest_agrees texts end
  agree_end = agree_rest texts ∙ to_the_end (end - 1) 1 (omega (arith, is.some))

  pub all_agree : length texts ≤ end → agree texts ≡ true
  all_agree past = agree_end ∙ ap (list_all (λ (other : List ℕ). bytes_eq (get_or texts 0 []) other)) (drop_all end texts past)

  pub one_differs : end < length texts → agree texts ≡ false
  one_differs below = agree_end ∙ next_agrees end below false (is.apart below)

  pub agreement : (count : ℕ) → count ≡ length texts → eqb end count ≡ agree texts
  agreement count many = elim (cases_lt end (length texts)) [
    | inl below ↦ ne_eqb end count (λ same. omega (arith, below, many, same)) ∙ sym (one_differs below)
    | inr past ↦ eq-eqb end count (omega (arith, many, past, is.within)) ∙ sym (all_agree past)
  ]

pub none_agree : (texts : List (List ℕ)) → length texts ≡ 0 → true ≡ agree texts
none_agree [] none = refl
none_agree (text ∷ others) none = absurd (omega (arith, none))

-- ---- what is added

pub none_said : (form : Form) (oldest : ℕ) (texts : List (List ℕ)) → length texts ≡ 0 → [] ≡ versions_text form oldest texts
none_said form oldest [] none = refl
none_said form oldest (text ∷ others) none = absurd (omega (arith, none))

pub all_said : (form : Form) (oldest : ℕ) (texts : List (List ℕ)) → 0 < length texts → agree texts ≡ true
    → alone_text form (get_or texts 0 []) ≡ versions_text form oldest texts
all_said form oldest [] some are = absurd (omega (arith, some))
all_said form oldest (text ∷ others) some are =
    ap (λ (same : Bool). cond same (alone_text form text) (flat_map (span_text form) (spans_of oldest (text ∷ others)))) (sym are)

apart_said : (form : Form) (oldest : ℕ) (texts : List (List ℕ)) → agree texts ≡ false
    → flat_map (span_text form) (spans_of oldest texts) ≡ versions_text form oldest texts
apart_said form oldest [] apart = refl
apart_said form oldest (text ∷ others) apart =
    ap (λ (same : Bool). cond same (alone_text form text) (flat_map (span_text form) (spans_of oldest (text ∷ others)))) (sym apart)

-- where nothing is to be explained, nothing is added
pub silent_span : (text : Buffered) (form : Form) (span : Span) → form ≡ Explanations → span.said ≡ []
    → text ≡ adding text (span_text form span)
silent_span text form span is none =
    adding_nothing text
    ∙ ap₂ (λ (f : Form) (said : List ℕ). adding text (span_text f (record { first = span.first; last = span.last; said = said }))) (sym is) (sym none)

module _ (form : Form) (oldest : ℕ) (texts : List (List ℕ)) where
  -- what is written of the versions from one on
  abbrev pub left : ℕ → List ℕ
  left from = flat_map (span_text form) (spans_of (oldest + from) (drop from texts))

  pub span_written : (from end : ℕ) → IsSpan texts from end → (before after whole : Buffered) → adding before (left from) ≡ whole
      → after ≡ adding before (span_text form (span_at oldest texts from end)) → adding after (left end) ≡ whole
  span_written from end is before after whole so_far wrote =
      let more : left from ≡ _ =
      ap (flat_map (span_text form)) (next_span oldest texts from end is)
      ∙ flat_map-cons (span_text form) (span_at oldest texts from end) (spans_of (oldest + end) (drop end texts)) in
      goes_on before after whole (span_text form (span_at oldest texts from end)) (left end) (ap (adding before) (sym more) ∙ so_far) wrote

  pub first_written : (end : ℕ) → IsSpan texts 0 end → end < length texts → (before after : Buffered)
      → after ≡ adding before (span_text form (span_at oldest texts 0 end)) → adding after (left end) ≡ adding before (versions_text form oldest texts)
  first_written end is below before after wrote =
      let none : oldest + 0 ≡ oldest = omega arith in
      span_written 0 end is before after (adding before (versions_text form oldest texts))
      (ap (λ (n : ℕ). adding before (flat_map (span_text form) (spans_of n texts))) none
      ∙ ap (adding before) (apart_said form oldest texts (one_differs texts end is below))) wrote

  pub all_written : (end : ℕ) → length texts ≤ end → (text whole : Buffered) → adding text (left end) ≡ whole → text ≡ whole
  all_written end past text whole so_far =
      adding_nothing text
      ∙ ap (λ (rest : List (List ℕ)). adding text (flat_map (span_text form) (spans_of (oldest + end) rest))) (sym (drop_all end texts past))
      ∙ so_far
