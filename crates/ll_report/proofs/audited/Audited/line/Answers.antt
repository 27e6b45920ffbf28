use Rattle.std.proofs.Common.{◌∙◌, List, ap, get_or, sym}
use Rattle.std.proofs.lemmas.List.{get_or-map}
use Rattle.ll_trace.specs.declared.op.Record.{Record}
use Rattle.ll_report.proofs.audited.Audited.line.Goals as goal

pub returns : goal.returns
returns c =
    let read = c.index-records-index.result in
    ap (λ (records : List Record). (get_or records c.args.index read).line) c.records.ensures.value
    ∙ sym (get_or-map (λ (r : Record). r.line) c.args.self.now.located.trace c.args.index read 0 c.requires)
