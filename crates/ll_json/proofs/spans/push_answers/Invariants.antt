-- what is written, with the answers of the versions that are left, is the whole
use Rattle.std.proofs.Common.{◌≡◌, ◌-◌, false}
use Rattle.ll_explain.specs.Buffers.{adding}
use Rattle.ll_report.specs.Printed.{texts_of}
use Rattle.ll_report.specs.Spans.{spans_of}
use Rattle.ll_json.specs.Rows.{said_of, separated}
use Rattle.ll_json.proofs.SpansSaid.{left}
use Rattle.ll_json.proofs.spans.push_answers.Given as goal

abbrev pub invariant-loop-from : goal.invariant-loop-from
invariant-loop-from l =
    let texts = texts_of said_of l.row in
    adding l.text (left l.oldest texts l.from) ≡ adding l.fn.text (separated false (spans_of l.oldest texts))

abbrev pub decreases-loop-from : goal.decreases-loop-from
decreases-loop-from l = l.count - l.from
