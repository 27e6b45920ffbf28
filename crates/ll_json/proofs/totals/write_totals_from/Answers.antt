use Rattle.std.proofs.Common.{◌∙◌, ◌+◌, List, sym, ap, arith, drop}
use Rattle.ll_findings.specs.Findings.{FindingValue}
use Rattle.ll_report.specs.Versions.{answers_in}
use Rattle.ll_report.proofs.SpansLeft.{next_of}
use Rattle.ll_json.specs.Parts.{values_tokens}
use Rattle.ll_json.specs.Reports.{totals_from}
use Rattle.ll_json.specs.Writing.{writing}
use Rattle.ll_json.proofs.Writing.{goes_on}
use Rattle.ll_json.proofs.totals.write_totals_from.Goals as goal

pub loop-finding-preserved : goal.loop-finding-preserved
unfolding totals_from
loop-finding-preserved c =
    let l = c.loop-finding in
    let next = next_of c.args.findings.now l.finding-index c.finding-item.result c.loop-finding-test.true c.finding-item.is in (
      omega (arith, l.invariant.0),
      goes_on l.out c.write_total.new.out _ _ (values_tokens (totals_from (l.abi + 1) (answers_in (drop (l.finding-index + 1) c.args.findings.now))))
          (ap (λ (fs : List FindingValue). writing l.out (values_tokens (totals_from l.abi (answers_in fs)))) (sym next) ∙ l.invariant.1)
          c.write_total.ensures,
    )
