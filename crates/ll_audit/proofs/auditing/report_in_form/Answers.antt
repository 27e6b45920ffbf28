-- What is found of the tree and the trace is what the options ask for, in each of the forms.
use Rattle.std.proofs.Common.{◌≡◌, ◌∙◌, ℕ, List, ap, subst, sym}
use Rattle.ll_rights.specs.Abis.{number_of}
use Rattle.ll_tree.specs.Trees.{Entry}
use Rattle.ll_trace.specs.declared.op.Record.{Record}
use Rattle.ll_report.specs.Found.{Found}
use Rattle.ll_report.specs.Rows.{refused_under_some, rows_text}
use Rattle.ll_report.specs.Versions.{founds_in}
use Rattle.ll_report.specs.declared.options.Format.{Format}
use Rattle.ll_command.specs.declared.command.TheConstants.{VERSION}
use Rattle.ll_json.specs.Reports.{AreFound, IsJsonReport}
use Rattle.ll_audit.specs.ShownReports.{IsReportIn, findings, versions_by}
use Rattle.ll_audit.proofs.FoundByVersion.{found_each, same_founds}
use Rattle.ll_audit.proofs.auditing.report_in_form.Goals as goal

pub report_over-requires : goal.report_over-requires
report_over-requires g c = rw (c.number-oldest.ensures, c.oldest.ensures.version) c.in_ok-all.ensures.few

pub json_report-requires : goal.json_report-requires
json_report-requires g c = rw (c.number-oldest.ensures, c.oldest.ensures.version) c.in_ok-all.ensures.few

pub returns-in_ok-report-in-Text-clause-report : goal.returns-in_ok-report-in-Text-clause-report
returns-in_ok-report-in-Text-clause-report g c =
    let options = c.args.audit.now.options.now in
    let located = c.in_ok-all.all.located in
    let oldest : c.number-oldest.result ≡ number_of options.abis.oldest = c.number-oldest.ensures ∙ ap number_of c.oldest.ensures.version in
    let founds = founds_in options.shown.explanations located.tree located.trace c.in_ok-all.all.findings in
    let same : founds ≡ findings options c.args.tree c.args.trace =
    ap (λ (entries : List Entry). founds_in options.shown.explanations entries located.trace c.in_ok-all.all.findings) c.in_ok-all.ensures.tree
    ∙ ap (λ (records : List Record). founds_in options.shown.explanations c.args.tree records c.in_ok-all.all.findings) c.in_ok-all.ensures.trace
    ∙ same_founds options.shown c.args.tree c.args.trace (versions_by options c.args.trace) c.in_ok-all.all.findings c.in_ok-all.ensures.findings
    ∙ found_each options c.args.tree c.args.trace in
    subst (λ (format : Format). IsReportIn format options c.args.tree c.args.trace c.in_ok-report-in-Text.report) (sym c.in-Text.is)
    (record {
      text = c.in_ok-report-in-Text.ensures.text ∙ ap (λ (n : ℕ). rows_text options.shown n founds located.trace) oldest
          ∙ ap (λ (founds : List Found). rows_text options.shown (number_of options.abis.oldest) founds located.trace) same
          ∙ ap (rows_text options.shown (number_of options.abis.oldest) (findings options c.args.tree c.args.trace)) c.in_ok-all.ensures.trace;
      refused = c.in_ok-report-in-Text.ensures.refused
          ∙ ap (λ (founds : List Found). refused_under_some founds located.trace) same
          ∙ ap (refused_under_some (findings options c.args.tree c.args.trace)) c.in_ok-all.ensures.trace;
    })

pub returns-in_ok-report-in-Json-clause-report : goal.returns-in_ok-report-in-Json-clause-report
returns-in_ok-report-in-Json-clause-report g c =
    let options = c.args.audit.now.options.now in
    let all = c.in_ok-all.all in
    let report = c.in_ok-report-in-Json.report in
    let versions = versions_by options c.args.trace in
    let oldest : c.number-oldest.result ≡ number_of options.abis.oldest = c.number-oldest.ensures ∙ ap number_of c.oldest.ensures.version in
    let found : AreFound options.shown.explanations all.located.tree all.located.trace versions all.findings =
    subst (λ (entries : List Entry). AreFound options.shown.explanations entries all.located.trace versions all.findings) (sym c.in_ok-all.ensures.tree)
    (subst (λ (records : List Record). AreFound options.shown.explanations c.args.tree records versions all.findings) (sym c.in_ok-all.ensures.trace)
    c.in_ok-all.ensures.findings) in
    subst (λ (format : Format). IsReportIn format options c.args.tree c.args.trace report) (sym c.in-Json.is)
    (subst (λ (records : List Record). IsJsonReport options.shown c.args.tree (number_of options.abis.oldest) versions records VERSION.now report)
    c.in_ok-all.ensures.trace
    (subst (λ (entries : List Entry). IsJsonReport options.shown entries (number_of options.abis.oldest) versions all.located.trace VERSION.now report)
    c.in_ok-all.ensures.tree
    (subst (λ (n : ℕ). IsJsonReport options.shown all.located.tree n versions all.located.trace VERSION.now report) oldest
    (c.in_ok-report-in-Json.ensures versions found))))
