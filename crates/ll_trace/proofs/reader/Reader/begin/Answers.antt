-- The pid has the process that has the next number.
use Rattle.std.proofs.Common.{refl}
use Rattle.ll_trace.proofs.reader.Reader.begin.Goals as goal

pub returns-clause-ok : goal.returns-clause-ok
returns-clause-ok c = record {
  owners = c.in_ok-insert.ensures.each;
  count = refl;
  records = refl;
}
