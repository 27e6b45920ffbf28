-- The answers of the versions that are left.
use Rattle.std.proofs.Common.{◌≡◌, ◌∙◌, ℕ, ◌+◌, ◌<◌, ◌≤◌, Bool, true, List, [], ◌∷◌, ◌++◌, drop, length, sym, ap}
use Rattle.std.proofs.Common.{append_assoc, codes, arith}
use Rattle.std.specs.Prelude.{if◌then◌else◌, nat_lt}
use Rattle.std.proofs.lemmas.Bool.{lt-ltb}
use Rattle.std.proofs.lemmas.List.{drop_all}
use Rattle.json.specs.Print.{print}
use Rattle.ll_explain.specs.Buffers.{Buffered, adding}
use Rattle.ll_explain.proofs.Appending.{appended_2}
use Rattle.ll_explain.proofs.Buffering.{adding_nothing, goes_on}
use Rattle.ll_report.specs.Spans.{IsSpan, Span, span_at, spans_of}
use Rattle.ll_report.proofs.SpanEnds.{next_span}
use Rattle.ll_json.specs.Rows.{separated, span_text, versions_tokens}

abbrev comma : Bool → List ℕ
comma behind = if behind then codes "," else []

-- what is before the members, and the members
pub span_added : (behind : Bool) (first last : ℕ) (said : List ℕ) (start middle end : Buffered)
    → middle ≡ adding start (comma behind ++ (print (versions_tokens first last) ++ codes ",")) → end ≡ adding middle said
    → end ≡ adding start (comma behind ++ span_text (record { first = first; last = last; said = said }))
span_added behind first last said start middle end fronted added =
    let front : List ℕ = print (versions_tokens first last) ++ codes "," in
    appended_2 start middle end (comma behind ++ front) said fronted added
    ∙ ap (adding start) (append_assoc (comma behind) front said
    ∙ ap (λ (t : List ℕ). comma behind ++ t) (append_assoc (print (versions_tokens first last)) (codes ",") said))

separated_more : (behind : Bool) (span : Span) (others : List Span)
    → separated behind (span ∷ others) ≡ (comma behind ++ span_text span) ++ separated true others
unfolding separated
separated_more behind span others = sym (append_assoc (comma behind) (span_text span) (separated true others))

module _ (oldest : ℕ) (texts : List (List ℕ)) where
  -- what is written of the versions from one on; an answer is behind another one, unless it is that of the oldest
  abbrev pub left : ℕ → List ℕ
  left from = separated (nat_lt 0 from) (spans_of (oldest + from) (drop from texts))

  pub span_written : (from end : ℕ) → IsSpan texts from end → (before after whole : Buffered) → adding before (left from) ≡ whole
      → after ≡ adding before (comma (nat_lt 0 from) ++ span_text (span_at oldest texts from end)) → adding after (left end) ≡ whole
  span_written from end is before after whole so_far wrote =
      let span : Span = span_at oldest texts from end in
      let others : List Span = spans_of (oldest + end) (drop end texts) in
      let later : 0 < end = omega (arith, is.some) in
      let more : left from ≡ (comma (nat_lt 0 from) ++ span_text span) ++ left end =
      ap (separated (nat_lt 0 from)) (next_span oldest texts from end is)
      ∙ separated_more (nat_lt 0 from) span others
      ∙ ap (λ (b : Bool). (comma (nat_lt 0 from) ++ span_text span) ++ separated b others) (sym (lt-ltb 0 end later)) in
      goes_on before after whole (comma (nat_lt 0 from) ++ span_text span) (left end) (ap (adding before) (sym more) ∙ so_far) wrote

  pub all_written : (end : ℕ) → length texts ≤ end → (text whole : Buffered) → adding text (left end) ≡ whole → text ≡ whole
  unfolding separated
  all_written end past text whole so_far =
      adding_nothing text
      ∙ ap (λ (rest : List (List ℕ)). adding text (separated (nat_lt 0 end) (spans_of (oldest + end) rest))) (sym (drop_all end texts past)) ∙ so_far
