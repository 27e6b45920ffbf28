use Rattle.std.proofs.Common.{◌∙◌, ap, sym}
use Rattle.ll_explain.specs.Buffers.{adding}
use Rattle.ll_report.specs.Rows.{totals_from}
use Rattle.ll_report.specs.Versions.{answers_in}
use Rattle.ll_report.proofs.RowsSaid.{several_alone}
use Rattle.ll_report.proofs.version_rows.VersionRowsRowForm.push_last.Goals as goal

pub returns : goal.returns
returns c =
    c.push_totals_from.ensures
    ∙ ap (λ several. adding c.args.text.now (totals_from several c.args.oldest (answers_in c.args.findings.now)))
    (sym (several_alone c.args.findings.now))
