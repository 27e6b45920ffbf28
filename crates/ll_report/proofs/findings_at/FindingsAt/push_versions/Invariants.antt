-- what is written, with the spans of the versions that are left, is the whole
use Rattle.std.proofs.Common.{◌≡◌, ◌-◌}
use Rattle.ll_explain.specs.Buffers.{adding}
use Rattle.ll_report.specs.Printed.{texts_of}
use Rattle.ll_report.specs.Spans.{versions_text}
use Rattle.ll_report.proofs.SpanEnds.{left}
use Rattle.ll_report.proofs.findings_at.FindingsAt.push_versions.Given as goal

abbrev pub invariant-loop-end : goal.invariant-loop-end
invariant-loop-end g l =
    let texts = texts_of g.P.Printer.printed l.self in
    adding l.text (left l.form l.oldest texts l.end) ≡ adding l.fn.text (versions_text l.form l.oldest texts)

abbrev pub decreases-loop-end : goal.decreases-loop-end
decreases-loop-end g l = l.count - l.end
