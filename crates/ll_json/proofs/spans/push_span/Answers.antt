use Rattle.std.proofs.Common.{List, ℕ, [], get_or}
use Rattle.std.specs.Prelude.{nat_lt}
use Rattle.ll_report.specs.Printed.{texts_of}
use Rattle.ll_json.specs.Rows.{said_of}
use Rattle.ll_json.proofs.SpansSaid.{span_added}
use Rattle.ll_json.proofs.spans.push_span.Goals as goal

pub returns : goal.returns
returns c =
    let said : List ℕ = get_or (texts_of said_of c.args.row.now) c.args.from [] in
    span_added (nat_lt 0 c.args.from) _ _ said c.args.text.now _ _ c.push_range.ensures c.print.ensures
