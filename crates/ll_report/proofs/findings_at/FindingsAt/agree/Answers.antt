use Rattle.std.proofs.Common.{◌∙◌, sym}
use Rattle.ll_report.specs.Printed.{texts_of}
use Rattle.ll_report.proofs.SpanEnds.{agreement, each_printed, none_agree}
use Rattle.ll_report.proofs.findings_at.FindingsAt.agree.Goals as goal

pub returns-then-versions-eq0 : goal.returns-then-versions-eq0
returns-then-versions-eq0 g c =
    none_agree (texts_of g.P.Printer.printed c.args.self.now)
    (each_printed g.P.Printer.printed c.args.self.now ∙ sym c.versions.ensures ∙ c.if-versions-eq0.true)

pub returns : goal.returns
returns g c =
    agreement (texts_of g.P.Printer.printed c.args.self.now) c.in_ok-end.end c.in_ok-end.ensures c.versions-2.result
    (c.versions-2.ensures ∙ sym (each_printed g.P.Printer.printed c.args.self.now))
