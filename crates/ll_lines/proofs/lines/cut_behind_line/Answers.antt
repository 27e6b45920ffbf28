use Rattle.std.proofs.Common.{◌+◌, arith}
use Rattle.ll_lines.specs.LineByLine.{line_feeds}
use Rattle.ll_lines.proofs.LinesLemmas.{filled-cut, filled-uncut}
use Rattle.ll_lines.proofs.lines.cut_behind_line.Goals as goal

pub returns-in-Some-clause-lines : goal.returns-in-Some-clause-lines
returns-in-Some-clause-lines c = λ n.
    rw (c.split_at.ensures.front, c.split_at.ensures.back)
    (filled-cut c.args.bytes.now c.min-from.result c.in-Some.end n (omega arith) c.in-Some.ensures.0 c.in-Some.ensures.1)

pub returns-in-None-clause-lines : goal.returns-in-None-clause-lines
returns-in-None-clause-lines c = λ n. filled-uncut n (n + line_feeds c.args.bytes.now) c.args.bytes.now
