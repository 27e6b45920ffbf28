use Rattle.std.proofs.Common.{rules}
use Rattle.ll_rules.proofs.moves.entering.Goals as goal

pub returns-clause-inside : goal.returns-clause-inside
returns-clause-inside c = search rules

pub returns-clause-path : goal.returns-clause-path
returns-clause-path c = search rules

pub returns-clause-rights : goal.returns-clause-rights
returns-clause-rights c = search rules
