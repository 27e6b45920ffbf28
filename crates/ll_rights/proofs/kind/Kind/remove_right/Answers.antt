use Rattle.std.proofs.Common.{rules}
use Rattle.ll_rights.specs.Rights.{only}
use Rattle.ll_rights.proofs.kind.Kind.remove_right.Goals as goal

pub returns-in-Dir : goal.returns-in-Dir
unfolding only
returns-in-Dir c = search rules

pub returns-in_default : goal.returns-in_default
unfolding only
returns-in_default c = search rules
