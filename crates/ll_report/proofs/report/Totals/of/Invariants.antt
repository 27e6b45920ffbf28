use Rattle.std.proofs.Common.{◌≡◌, take}
use Rattle.std.specs.Prelude.{count_by}
use Rattle.ll_report.specs.Lines.{verdict_of}
use Rattle.ll_report.specs.Report as words
use Rattle.ll_report.proofs.report.Totals.of.Given as goal

-- the answers before the next one are counted
abbrev pub invariant-loop-index : goal.invariant-loop-index
invariant-loop-index l = record {
  all : l.totals.all ≡ l.index;
  allowed : l.totals.allowed ≡ count_by (λ answer. words.is_allowed (verdict_of answer)) (take l.index l.finding.answers);
  refused : l.totals.refused ≡ count_by (λ answer. words.is_refused (verdict_of answer)) (take l.index l.finding.answers);
  moot : l.totals.moot ≡ count_by (λ answer. words.is_moot (verdict_of answer)) (take l.index l.finding.answers);
}
