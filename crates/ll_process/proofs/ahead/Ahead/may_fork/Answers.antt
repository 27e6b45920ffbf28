-- What is known reaches over the record, whether it was known before or is found out here.
use Rattle.std.proofs.Common.{rules}
use Rattle.ll_process.proofs.ahead.Ahead.may_fork.Goals as goal

pub returns-clause-known : goal.returns-clause-known
returns-clause-known c = search rules

pub returns-clause-case : goal.returns-clause-case
returns-clause-case c = search rules

pub returns-clause-indices : goal.returns-clause-indices
returns-clause-indices c = search rules
