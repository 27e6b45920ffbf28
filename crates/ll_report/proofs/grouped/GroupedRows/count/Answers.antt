use Rattle.std.proofs.Common.{◌∙◌, ap, length, sym}
use Rattle.std.specs.Prelude.{is_some}
use Rattle.ll_report.specs.Made.{Made}
use Rattle.ll_report.proofs.Grouping.{length-grouped}
use Rattle.ll_report.proofs.grouped.GroupedRows.count.Goals as goal

pub returns : goal.returns
returns g c =
    let all = c.self.inside in
    c.count.ensures ∙ sym (length-grouped g.F.RowForm.head (is_some all.counts) all.rows) ∙ ap (λ (m : Made). length m.shown) c.self.view_is
