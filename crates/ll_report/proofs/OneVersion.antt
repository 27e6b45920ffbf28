-- The report under one version, with all lines and without explanations.
use Rattle.std.proofs.Common.{◌≡◌, ◌∙◌, ℕ, suc, ◌+◌, Bool, true, false, cond, List, [], ◌∷◌, ◌++◌, refl, sym, ap, ap₂, append-nil, append_assoc, arith, codes}
use Rattle.std.proofs.Common.{decimal, length, slice_get}
use Rattle.std.specs.Prelude.{◌||◌, count_by, unwrap_or}
use Rattle.std.specs.List.{flat_map, range_with_len}
use Rattle.std.proofs.lemmas.List.Sums.{sum_by-cons}
use Rattle.ll_trace.specs.declared.op.Record.{Record}
use Rattle.ll_semantics.specs.declared.answer.Answer.{Answer}
use Rattle.ll_semantics.specs.declared.answer.Answer.TheVariants.{Moot}
use Rattle.ll_report.specs.declared.options.TheConstants.{ALL_LINES}
use Rattle.ll_report.specs.Found.{Found, answer_at}
use Rattle.ll_report.specs.Lines.{line_of, lines_of, refused_among, verdict_of}
use Rattle.ll_report.specs.Made.{rows_of}
use Rattle.ll_report.specs.Report.{counts_text, count_of, is_allowed, is_moot, is_refused, line_text, report_text, total_text, verdict_text}
use Rattle.ll_report.specs.Rows.{count_under, is_refused_under_some, refused_under_some, row_text, rows_text, told_of, totals_from, totals_text}
use Rattle.ll_report.proofs.LinesLeft.{count_of-answers, lines_of-length}
use Rattle.ll_report.proofs.RowsSaid.{count_same}

or-false : (b : Bool) → (b || false) ≡ b
or-false true = refl
or-false false = refl

-- an answer counts once, whether it is counted by its index or in a list
counted : (test : Answer → Bool) (given : ℕ → Answer) (index : ℕ) (answers : List Answer)
    → ((k : ℕ) → unwrap_or (slice_get answers k) Moot ≡ given (index + k))
    → count_by (λ k. test (given k)) (range_with_len index (length answers)) ≡ count_by test answers
counted test given index [] are = refl
counted test given index (answer ∷ answers) are =
    let here : index + 0 ≡ index = omega arith in
    let first : cond {A = ℕ} (test (given index)) 1 0 ≡ cond (test answer) 1 0 = ap {B = ℕ} (λ (a : Answer). cond (test a) 1 0) (sym (are 0 ∙ ap given here)) in
    omega (
      arith,
      first,
      counted test given (index + 1) answers (λ k. let next : index + suc k ≡ index + 1 + k = omega arith in are (suc k) ∙ ap given next),
      sum_by-cons (λ (k : ℕ). cond (test (given k)) 1 0) index (range_with_len (index + 1) (length answers)),
      sum_by-cons (λ (a : Answer). cond (test a) 1 0) answer answers,
    )

append_nil_both : (a b : List ℕ) → (a ++ [] ++ b) ++ [] ≡ a ++ b
append_nil_both a b = append-nil (a ++ [] ++ b) ∙ ap (λ (text : List ℕ). text ++ b) (append-nil a)

module _ (found : Found) where
  -- a record's row is its line
  row_is_line : (oldest index : ℕ) (r : Record)
      → row_text ALL_LINES oldest (found ∷ []) index (told_of r) ≡ line_text (line_of r (answer_at found index))
  row_is_line oldest index r =
      append-nil (told_of r ++ (codes " " ++ verdict_text (verdict_of (answer_at found index))) ++ codes "\n")
      ∙ ap (λ (text : List ℕ). text ++ codes "\n") (sym (append_assoc (told_of r) (codes " ") (verdict_text (verdict_of (answer_at found index)))))

  rows_are_lines : (oldest index : ℕ) (records : List Record) (answers : List Answer) → length answers ≡ length records
      → ((k : ℕ) → unwrap_or (slice_get answers k) Moot ≡ answer_at found (index + k))
      → flat_map (λ row. row) (rows_of (λ k r. row_text ALL_LINES oldest (found ∷ []) k (told_of r)) index records)
      ≡ flat_map line_text (lines_of records answers)
  unfolding rows_of lines_of
  rows_are_lines oldest index [] [] many are = refl
  rows_are_lines oldest index [] (answer ∷ answers) many are = absurd (omega (arith, many))
  rows_are_lines oldest index (r ∷ others) [] many are = absurd (omega (arith, many))
  rows_are_lines oldest index (r ∷ others) (answer ∷ answers) many are =
      let here : index + 0 ≡ index = omega arith in
      let first : answer ≡ answer_at found index = are 0 ∙ ap (answer_at found) here in
      ap₂ (λ (row rest : List ℕ). row ++ rest)
      (row_is_line oldest index r ∙ ap (λ (a : Answer). line_text (line_of r a)) (sym first))
      (rows_are_lines oldest (index + 1) others answers (omega (arith, many))
      (λ k. let next : index + suc k ≡ index + 1 + k = omega arith in are (suc k) ∙ ap (answer_at found) next))

  -- the one total has no number
  total_is_last : (oldest : ℕ) (records : List Record) → length found.answers ≡ length records
      → totals_text oldest (found ∷ [])
      ≡ total_text (length (lines_of records found.answers)) (count_of is_allowed (lines_of records found.answers))
      (count_of is_refused (lines_of records found.answers)) (count_of is_moot (lines_of records found.answers))
  unfolding totals_from
  total_is_last oldest records many =
      let counts : List ℕ = counts_text (count_under is_allowed found) (count_under is_refused found) (count_under is_moot found) in
      append_nil_both (codes "total " ++ decimal (length found.answers)) counts
      ∙ rw (
        lines_of-length records found.answers many,
        count_of-answers is_allowed records found.answers many,
        count_of-answers is_refused records found.answers many,
        count_of-answers is_moot records found.answers many,
      ) refl

  pub is_report_text : (oldest : ℕ) (records : List Record) → length found.answers ≡ length records
      → rows_text ALL_LINES oldest (found ∷ []) records ≡ report_text (lines_of records found.answers)
  unfolding report_text
  is_report_text oldest records many =
      ap₂ (λ (rows last : List ℕ). rows ++ last)
      (rows_are_lines oldest 0 records found.answers many (λ k. let same : k ≡ 0 + k = omega arith in ap (answer_at found) same))
      (total_is_last oldest records many)

  pub is_refused_count : (records : List Record) → length found.answers ≡ length records
      → refused_under_some (found ∷ []) records ≡ refused_among records found.answers
  unfolding refused_among
  is_refused_count records many =
      count_same (is_refused_under_some (found ∷ [])) (λ k. is_refused (verdict_of (answer_at found k)))
      (λ k. or-false (is_refused (verdict_of (answer_at found k)))) (range_with_len 0 (length records))
      ∙ ap (λ (n : ℕ). count_by (λ k. is_refused (verdict_of (answer_at found k))) (range_with_len 0 n)) (sym many)
      ∙ counted (λ answer. is_refused (verdict_of answer)) (answer_at found) 0 found.answers
      (λ k. let same : k ≡ 0 + k = omega arith in ap (answer_at found) same)
      ∙ sym (count_of-answers is_refused records found.answers many)
