use Rattle.std.proofs.Common.{rules, ◌≡◌, ◌∙◌, ◌<◌, ◌≤◌, List, ℕ, length, ap, arith}
use Rattle.ll_explain.specs.Buffers.{adding}
use Rattle.ll_explain.proofs.Buffering.{adding_nothing}
use Rattle.ll_report.specs.Printed.{texts_of}
use Rattle.ll_report.proofs.SpanEnds.{all_agree, all_said, all_written, each_printed, first_written, none_said, span_written}
use Rattle.ll_report.proofs.findings_at.FindingsAt.push_versions.Goals as goal

pub returns-then-count-eq0 : goal.returns-then-count-eq0
returns-then-count-eq0 g c =
    let texts : List (List ℕ) = texts_of g.P.Printer.printed c.args.self.now in
    let none : length texts ≡ 0 = omega (arith, each_printed g.P.Printer.printed c.args.self.now, c.versions-count.ensures, c.if-count-eq0.true) in
    adding_nothing c.args.text.now ∙ ap (adding c.args.text.now) (none_said c.args.form c.args.oldest texts none)

pub returns-then-end-count : goal.returns-then-end-count
returns-then-end-count g c =
    let texts : List (List ℕ) = texts_of g.P.Printer.printed c.args.self.now in
    let many : length texts ≡ length c.args.self.now.findings.now = each_printed g.P.Printer.printed c.args.self.now in
    let is = c.in_ok-end.ensures in
    c.push_alone.ensures
    ∙ ap (adding c.args.text.now) (all_said c.args.form c.args.oldest texts (omega (arith, is.some, is.within))
    (all_agree texts c.in_ok-end.end is (omega (arith, many, c.versions-count.ensures, c.if-end-count.true))))

pub loop-end-init : goal.loop-end-init
loop-end-init g c =
    let texts : List (List ℕ) = texts_of g.P.Printer.printed c.args.self.now in
    let many : length texts ≡ length c.args.self.now.findings.now = each_printed g.P.Printer.printed c.args.self.now in
    let is = c.in_ok-end.ensures in
    let differs : c.in_ok-end.end ≡ c.versions-count.result → ⊥ = search rules in
    let below : c.in_ok-end.end < length texts = omega (arith, many, is.within, c.versions-count.ensures, differs) in
    first_written c.args.form c.args.oldest texts c.in_ok-end.end is below c.args.text.now c.push_span.new.text c.push_span.ensures

pub loop-end-preserved : goal.loop-end-preserved
loop-end-preserved g c =
    span_written c.args.form c.args.oldest (texts_of g.P.Printer.printed c.args.self.now) c.loop-end.end _ c.in_ok-end-2.ensures c.loop-end.text _ _
    c.loop-end.invariant c.push_span-in-loop-end.ensures

pub returns : goal.returns
returns g c =
    let texts : List (List ℕ) = texts_of g.P.Printer.printed c.args.self.now in
    let past : length texts ≤ c.loop-end.end =
    omega (arith, each_printed g.P.Printer.printed c.args.self.now, c.loop-end-test.false, c.versions-count.ensures) in
    all_written c.args.form c.args.oldest texts c.loop-end.end past c.loop-end.text _ c.loop-end.invariant
