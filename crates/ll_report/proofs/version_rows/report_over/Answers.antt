use Rattle.std.proofs.Common.{◌∙◌, List, ℕ, ap, ap₂, length}
use Rattle.ll_tree.specs.Trees.{Entry}
use Rattle.ll_trace.specs.declared.op.Record.{Record}
use Rattle.ll_report.specs.Counted.{grouped}
use Rattle.ll_report.specs.Made.{Made, Told, line_numbers, text_of}
use Rattle.ll_report.specs.Rows.{kind_head, rows_shown, totals_text}
use Rattle.ll_report.specs.Versions.{founds_in}
use Rattle.ll_report.proofs.ByKind.{text_grouped}
use Rattle.ll_report.proofs.Making.{rows_same}
use Rattle.ll_report.proofs.RowsSaid.{row_same, same_refused, same_totals}
use Rattle.ll_report.proofs.version_rows.report_over.Goals as goal

pub returns-clause-text : goal.returns-clause-text
returns-clause-text c =
    let a = c.args in
    let tree : List Entry = a.audited.located.tree in
    let records : List Record = a.audited.located.trace in
    let founds = founds_in a.shown.explanations tree records a.audited.findings in
    let made : List (List ℕ) → List ℕ → Made = λ (rows : List (List ℕ)) (last : List ℕ). record { lines = line_numbers records; shown = rows; last = last } in
    ap (λ (t : Told). t.text) c.in_ok-report.ensures
    ∙ ap₂ (λ (rows : List (List ℕ)) (last : List ℕ). text_of (grouped kind_head a.shown.kinds (made rows last)))
    (rows_same _ _ (λ index r. row_same a.oldest tree records a.audited.findings index a.shown r) 0 records)
    (same_totals a.shown.explanations tree records a.oldest a.audited.findings)
    ∙ text_grouped kind_head a.shown.kinds (made (rows_shown a.shown a.oldest founds records) (totals_text a.oldest founds))

pub returns-clause-refused : goal.returns-clause-refused
returns-clause-refused c =
    let a = c.args in
    let records : List Record = a.audited.located.trace in
    ap (λ (t : Told). t.refused) c.in_ok-report.ensures
    ∙ same_refused a.shown.explanations a.audited.located.tree records a.audited.findings (length records)
