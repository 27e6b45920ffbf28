use Rattle.std.proofs.Common.{rules}
use Rattle.ll_rules.proofs.domain.Stack.gained.Goals as goal

pub without-granted_there-requires : goal.without-granted_there-requires
without-granted_there-requires c = search rules

pub returns-clause-gained : goal.returns-clause-gained
returns-clause-gained c = search rules

pub returns-clause-count : goal.returns-clause-count
returns-clause-count c = search rules
