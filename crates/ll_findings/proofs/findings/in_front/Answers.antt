use Rattle.std.proofs.Common.{rules}
use Rattle.ll_findings.proofs.findings.in_front.Goals as goal

pub insert-requires : goal.insert-requires
insert-requires c = search rules

pub returns-in_err-insert : goal.returns-in_err-insert
returns-in_err-insert c = search rules

pub returns : goal.returns
returns c = search rules
