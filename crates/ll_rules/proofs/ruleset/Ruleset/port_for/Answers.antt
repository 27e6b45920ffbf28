use Rattle.std.proofs.Common.{rules}
use Rattle.ll_rules.proofs.ruleset.Ruleset.port_for.Goals as goal

pub returns-then-not-ports_are_known-clause-fault : goal.returns-then-not-ports_are_known-clause-fault
returns-then-not-ports_are_known-clause-fault c = search rules

pub returns-then-not-ports_are_known-clause-port : goal.returns-then-not-ports_are_known-clause-port
returns-then-not-ports_are_known-clause-port c = search rules

pub returns-then-is_empty-clause-fault : goal.returns-then-is_empty-clause-fault
returns-then-is_empty-clause-fault c = search rules
