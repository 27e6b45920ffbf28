use Rattle.std.proofs.Common.{◌∙◌, ◌+◌, sym, ap, arith, drop}
use Rattle.ll_explain.specs.Buffers.{adding}
use Rattle.ll_explain.proofs.Buffering.{adding_nothing, goes_on}
use Rattle.ll_report.specs.Rows.{totals_from}
use Rattle.ll_report.specs.Versions.{answers_in}
use Rattle.ll_report.proofs.RowsSaid.{totals_last, totals_next}
use Rattle.ll_report.proofs.version_rows.push_totals_from.Goals as goal

pub loop-finding-preserved : goal.loop-finding-preserved
loop-finding-preserved c =
    let l = c.loop-finding in
    let next = totals_next c.args.are_of_several c.args.findings.now l.finding-index l.abi c.finding-item.result c.loop-finding-test.true c.finding-item.is in (
      goes_on l.text c.push_total.new.text _ _ (totals_from c.args.are_of_several (l.abi + 1) (answers_in (drop (l.finding-index + 1) c.args.findings.now)))
          (ap (adding l.text) (sym next) ∙ l.invariant.0) c.push_total.ensures,
      omega (arith, l.invariant.1),
    )

pub returns : goal.returns
returns c =
    let l = c.loop-finding in
    adding_nothing l.text
    ∙ ap (adding l.text) (sym (totals_last c.args.are_of_several c.args.findings.now l.finding-index l.abi c.loop-finding-test.false))
    ∙ l.invariant.0
