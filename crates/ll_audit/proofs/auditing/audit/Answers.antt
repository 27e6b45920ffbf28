use Rattle.std.proofs.Common.{subst}
use Rattle.std.proofs.lemmas.Result.{IfOk-weaker}
use Rattle.ll_report.specs.declared.options.TheConstants.{ALL_LINES}
use Rattle.ll_report.specs.declared.options.Format.TheVariants.{Text}
use Rattle.ll_rights.specs.AbiRanges.{Range}
use Rattle.ll_trace.specs.declared.trace.Effort.TheVariants.{AsRecorded}
use Rattle.ll_report.specs.Made.{told_by}
use Rattle.ll_audit.specs.ShownReports.{IsReportWith}
use Rattle.ll_audit.proofs.OneReport.{with_all_lines}
use Rattle.ll_audit.proofs.auditing.audit.Goals as goal

pub returns-clause-report : goal.returns-clause-report
returns-clause-report g c =
    IfOk-weaker c.audit_with.result _ _
    (λ report is. with_all_lines c.args.abi c.args.tree.now c.args.trace.now report
    (subst
    (λ (abis : Range). IsReportWith (record { abis = abis; effort = AsRecorded; shown = ALL_LINES; format = Text }) c.args.tree.now c.args.trace.now
    (told_by report))
    c.only.ensures is))
    c.audit_with.ensures.report
