use Rattle.std.proofs.Common.{◌∙◌, ◌<◌, ℕ, ap, get_or, subst}
use Rattle.ll_report.specs.Made.{Made}
use Rattle.ll_report.specs.Versions.{if_shown}
use Rattle.ll_report.proofs.Making.{as_many}
use Rattle.ll_report.proofs.formed.FormedRows.line.Goals as goal

pub line-requires : goal.line-requires
line-requires g c =
    let rows = c.self.inside in
    let all = rows.audited in
    subst (λ (n : ℕ). c.args.index < n)
    (as_many (if_shown g.F.RowForm.told rows.shown rows.oldest all.located.tree all.located.trace all.findings) all.located.trace _
    c.args.self.now c.self.view_is) c.requires

pub returns : goal.returns
returns g c = c.line.ensures ∙ ap (λ (made : Made). get_or made.lines c.args.index 0) c.self.view_is
