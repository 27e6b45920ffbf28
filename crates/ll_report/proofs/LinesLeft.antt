-- The lines of records and answers, counted.
use Rattle.std.proofs.Common.{◌≡◌, ◌∙◌, ◌+◌, ◌<◌, ℕ, suc, List, [], ◌∷◌, get_or, length, take, Bool, cond, refl, sym, ap, ap₂, arith}
use Rattle.std.specs.List.{count_by}
use Rattle.std.specs.Prelude.{slice_get, unwrap_or}
use Rattle.std.proofs.lemmas.List.{take_more}
use Rattle.std.proofs.lemmas.List.Sums.{fold_push, sum_by-cons}
use Rattle.std.proofs.lemmas.Option.{unwrap_or-slice_get}
use Rattle.ll_trace.specs.declared.op.Record.{Record}
use Rattle.ll_semantics.specs.declared.answer.Answer.{Answer}
use Rattle.ll_report.specs.Report.{ReportLine, Verdict, count_of}
use Rattle.ll_report.specs.Lines.{line_of, lines_of, verdict_of}

-- as many lines as records
pub lines_of-length : (records : List Record) (answers : List Answer) → length answers ≡ length records → length (lines_of records answers) ≡ length answers
unfolding lines_of
lines_of-length [] [] same = refl
lines_of-length [] (answer ∷ answers) same = absurd (omega (arith, same))
lines_of-length (r ∷ others) [] same = absurd (omega (arith, same))
lines_of-length (r ∷ others) (answer ∷ answers) same = ap suc (lines_of-length others answers (omega (arith, same)))

-- the verdicts of the lines are counted by the answers
pub count_of-answers : (test : Verdict → Bool) (records : List Record) (answers : List Answer) → length answers ≡ length records
    → count_of test (lines_of records answers) ≡ count_by (λ answer. test (verdict_of answer)) answers
unfolding lines_of
count_of-answers test [] [] same = refl
count_of-answers test [] (answer ∷ answers) same = absurd (omega (arith, same))
count_of-answers test (r ∷ others) [] same = absurd (omega (arith, same))
count_of-answers test (r ∷ others) (answer ∷ answers) same =
    let rest : count_of test (lines_of others answers) ≡ count_by (λ a. test (verdict_of a)) answers =
    count_of-answers test others answers (omega (arith, same)) in
    omega (
      arith,
      rest,
      sum_by-cons (λ (said : ReportLine). cond (test said.verdict) 1 0) (line_of r answer) (lines_of others answers),
      sum_by-cons (λ (a : Answer). cond (test (verdict_of a)) 1 0) answer answers,
    )

-- one answer more is counted
pub one_more_counted : {X : Type 0} (test : X → Bool) (all : List X) (index : ℕ) (other x : X) (count : ℕ) (is : Bool) (more : ℕ) → index < length all
    → count ≡ count_by test (take index all) → x ≡ unwrap_or (slice_get all index) other → is ≡ test x → more ≡ cond is 1 0
    → count + more ≡ count_by test (take (index + 1) all)
one_more_counted test all index other x count is more within counted read tested adds =
    let here : is ≡ test (get_or all index other) = tested ∙ ap test (read ∙ unwrap_or-slice_get all index other) in
    ap₂ (λ (m n : ℕ). m + n) counted (adds ∙ ap (λ b. cond b 1 0) here)
    ∙ sym (fold_push (λ n y. n + cond (test y) 1 0) 0 (take index all) (get_or all index other))
    ∙ sym (ap (count_by test) (take_more all index other within))
