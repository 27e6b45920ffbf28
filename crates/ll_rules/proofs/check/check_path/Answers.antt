use Rattle.std.proofs.Common.{rules}
use Rattle.ll_rules.proofs.check.check_path.Goals as goal

pub check_path_counted-requires-clause-domain : goal.check_path_counted-requires-clause-domain
check_path_counted-requires-clause-domain c = search rules

pub check_path_counted-requires-clause-rules : goal.check_path_counted-requires-clause-rules
check_path_counted-requires-clause-rules c = search rules

pub returns : goal.returns
returns c = search rules
