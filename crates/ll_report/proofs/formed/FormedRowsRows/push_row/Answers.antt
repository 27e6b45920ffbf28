use Rattle.std.proofs.Common.{◌∙◌, List, ap}
use Rattle.ll_explain.specs.Buffers.{adding}
use Rattle.ll_trace.specs.declared.op.Record.{Record}
use Rattle.ll_report.specs.Versions.{if_shown}
use Rattle.ll_report.proofs.Making.{nothing_added, row_added}
use Rattle.ll_report.proofs.formed.FormedRowsRows.push_row.Goals as goal

pub returns-in_ok-push_if_shown-clause-row : goal.returns-in_ok-push_if_shown-clause-row
returns-in_ok-push_if_shown-clause-row g c =
    let rows = c.self.inside in
    let all = rows.audited in
    let told = if_shown g.F.RowForm.told rows.shown rows.oldest all.located.tree in
    let r = c.in-Some.record.now in
    let are = c.records-records.ensures.value in
    row_added (told all.located.trace all.findings) all.located.trace _ c.args.self.now c.self.view_is c.args.index c.records-records.result.now are
    c.args.text.now _ r c.in-Some.ensures.lookup.0 c.in-Some.ensures.lookup.1
    (c.in_ok-push_if_shown.ensures ∙ ap (λ (records : List Record). adding c.args.text.now (told records all.findings c.args.index r)) are)

pub returns-in_default-clause-row : goal.returns-in_default-clause-row
returns-in_default-clause-row g c =
    let rows = c.self.inside in
    let all = rows.audited in
    nothing_added (if_shown g.F.RowForm.told rows.shown rows.oldest all.located.tree all.located.trace all.findings) all.located.trace _ c.args.self.now
    c.self.view_is c.args.index c.records-records.result.now c.records-records.ensures.value c.args.text.now c.in_default.ensures.lookup.0
