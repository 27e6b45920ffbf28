use Rattle.std.proofs.Common.{List, subst, sym}
use Rattle.std.proofs.lemmas.Result.{IfOk-weaker}
use Rattle.ll_trace.specs.declared.op.Record.{Record}
use Rattle.ll_report.specs.Made.{Told}
use Rattle.ll_json.specs.Reports.{IsJsonReport}
use Rattle.ll_json.proofs.KindsTold.{report_is}
use Rattle.ll_json.proofs.report.json_report.Goals as goal

pub returns : goal.returns
returns c =
    let a = c.args in
    let tree = a.audited.located.tree in
    let later : List Record = a.audited.located.trace in
    IfOk-weaker c.report_in.result _ _ (λ report is versions found.
    subst (λ (r : Told). IsJsonReport a.shown tree a.oldest versions later a.program.now r) (sym is)
    (report_is a.shown a.oldest tree versions later a.audited.findings found a.program.now)) c.report_in.ensures
