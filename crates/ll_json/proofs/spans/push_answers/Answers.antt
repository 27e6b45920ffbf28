use Rattle.std.proofs.Common.{◌≡◌, ◌+◌, ◌≤◌, List, ℕ, false, length, ap, arith}
use Rattle.ll_explain.specs.Buffers.{adding}
use Rattle.ll_report.specs.Printed.{texts_of}
use Rattle.ll_report.specs.Spans.{spans_of}
use Rattle.ll_report.proofs.SpanEnds.{each_printed}
use Rattle.ll_json.specs.Rows.{said_of, separated}
use Rattle.ll_json.proofs.SpansSaid.{all_written, span_written}
use Rattle.ll_json.proofs.spans.push_answers.Goals as goal

pub loop-from-init : goal.loop-from-init
loop-from-init c =
    let none : c.args.oldest + 0 ≡ c.args.oldest = omega arith in
    ap (λ (n : ℕ). adding c.args.text.now (separated false (spans_of n (texts_of said_of c.args.row.now)))) none

pub loop-from-preserved : goal.loop-from-preserved
loop-from-preserved c =
    span_written c.args.oldest (texts_of said_of c.args.row.now) c.loop-from.from _ c.in_ok-end.ensures c.loop-from.text _ _
    c.loop-from.invariant c.push_span.ensures

pub returns : goal.returns
returns c =
    let texts : List (List ℕ) = texts_of said_of c.args.row.now in
    let past : length texts ≤ c.loop-from.from =
    omega (arith, each_printed said_of c.args.row.now, c.loop-from-test.false, c.versions-count.ensures) in
    all_written c.args.oldest texts c.loop-from.from past c.loop-from.text _ c.loop-from.invariant
