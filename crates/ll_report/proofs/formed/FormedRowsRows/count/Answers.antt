use Rattle.std.proofs.Common.{◌∙◌, sym}
use Rattle.ll_report.specs.Versions.{if_shown}
use Rattle.ll_report.proofs.Making.{as_many}
use Rattle.ll_report.proofs.formed.FormedRowsRows.count.Goals as goal

pub returns : goal.returns
returns g c =
    let rows = c.self.inside in
    let all = rows.audited in
    c.count.ensures
    ∙ sym (as_many (if_shown g.F.RowForm.told rows.shown rows.oldest all.located.tree all.located.trace all.findings) all.located.trace _ c.args.self.now
    c.self.view_is)
