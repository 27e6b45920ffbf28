use Rattle.std.proofs.Common.{◌∙◌, sym}
use Rattle.std.proofs.lemmas.Bool.{not-false, not-true}
use Rattle.ll_report.proofs.RowsSaid.{as_agreed, kept_in, passed_over}
use Rattle.ll_report.proofs.rows.is_left_out.Goals as goal

pub returns-then-is_passed_over : goal.returns-then-is_passed_over
returns-then-is_passed_over c =
    let s = c.args.row.now in
    passed_over c.args.shown s.findings.now s.index s.tree.now s.records.now (sym c.is_passed_over.ensures ∙ c.if-is_passed_over.true)

pub returns-then-not-shown : goal.returns-then-not-shown
returns-then-not-shown c =
    let s = c.args.row.now in
    kept_in c.args.shown s.findings.now s.index s.tree.now s.records.now (sym c.is_passed_over.ensures ∙ c.if-is_passed_over.false)
    (not-true c.args.shown.differing_alone c.if-not-shown.true)

pub returns : goal.returns
returns c =
    let s = c.args.row.now in
    c.in_ok-agree.ensures
    ∙ as_agreed c.args.shown s.findings.now s.index s.tree.now s.records.now (sym c.is_passed_over.ensures ∙ c.if-is_passed_over.false)
    (not-false c.args.shown.differing_alone c.if-not-shown.false)
