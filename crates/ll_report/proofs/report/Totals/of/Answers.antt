use Rattle.std.proofs.Common.{◌≡◌, ◌+◌, ◌<◌, ℕ, Bool, cond, length, take, ap, arith}
use Rattle.std.specs.Prelude.{count_by}
use Rattle.ll_semantics.specs.declared.answer.Answer.{Answer}
use Rattle.ll_semantics.specs.declared.answer.Answer.TheVariants.{Moot}
use Rattle.ll_report.specs.Lines.{verdict_of}
use Rattle.ll_report.specs.Report as words
use Rattle.ll_report.proofs.LinesLeft.{one_more_counted}
use Rattle.ll_report.proofs.report.Totals.of.Goals as goal

pub loop-index-preserved : goal.loop-index-preserved
loop-index-preserved c =
    let answers = c.args.finding.now.answers in
    let index = c.loop-index.index in
    let within : index < length answers = omega (arith, c.loop-index-test.true, c.loop-index.auto.index-end, c.count-index-end.ensures) in
    let next : (test : Answer → Bool) (count : ℕ) (is : Bool) (more : ℕ) → count ≡ count_by test (take index answers) → is ≡ test c.answer-answer.result
    → more ≡ cond is 1 0 → count + more ≡ count_by test (take (index + 1) answers) =
    λ test count is more counted. one_more_counted test answers index Moot c.answer-answer.result count is more within counted c.answer-answer.ensures in
    record {
      all = ap (λ n. n + 1) c.loop-index.invariant.all;
      allowed = next (λ answer. words.is_allowed (verdict_of answer)) c.loop-index.totals.allowed c.is_allowed.result c.one_if.result
          c.loop-index.invariant.allowed c.is_allowed.ensures c.one_if.ensures;
      refused = next (λ answer. words.is_refused (verdict_of answer)) c.loop-index.totals.refused c.is_refused.result c.one_if-in-loop-index.result
          c.loop-index.invariant.refused c.is_refused.ensures c.one_if-in-loop-index.ensures;
      moot = next (λ answer. words.is_moot (verdict_of answer)) c.loop-index.totals.moot c.is_moot.result c.one_if-in-loop-index-2.result
          c.loop-index.invariant.moot c.is_moot.ensures c.one_if-in-loop-index-2.ensures;
    }
