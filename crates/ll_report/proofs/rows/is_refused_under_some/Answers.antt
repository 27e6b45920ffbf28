-- Where versions find the same, the newest one tells whether some version refuses.
use Rattle.std.proofs.Common.{◌∙◌, ap, sym}
use Rattle.ll_semantics.specs.declared.answer.Answer.{Answer}
use Rattle.ll_report.specs.Lines.{verdict_of}
use Rattle.ll_report.specs.Report.{is_refused}
use Rattle.ll_report.proofs.RowsSaid.{newest_refuses}
use Rattle.ll_report.proofs.rows.is_refused_under_some.Goals as goal

pub returns-in-Some : goal.returns-in-Some
returns-in-Some c =
    c.is_refused.ensures ∙ ap (λ (answer : Answer). is_refused (verdict_of answer)) c.answer.ensures
    ∙ newest_refuses c.args.index c.in-Some.newest.now _ c.args.findings.now (sym c.as_slice-2.ensures ∙ c.in-Some.ensures.cases.0)
    (c.is_apart.ensures c.if-is_apart.false)
