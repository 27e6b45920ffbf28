use Rattle.ll_report.specs.Printed.{texts_of}
use Rattle.ll_report.specs.Spans.{span_at}
use Rattle.ll_report.proofs.SpanEnds.{silent_span}
use Rattle.ll_report.proofs.findings_at.FindingsAt.push_span.Goals as goal

pub returns-then-is_blank : goal.returns-then-is_blank
returns-then-is_blank g c =
    silent_span c.args.text.now c.args.form (span_at c.args.oldest (texts_of g.P.Printer.printed c.args.self.now) c.args.from c.args.end)
    c.in-Explanations.is (c.is_blank.ensures.0 c.if-is_blank.true)
