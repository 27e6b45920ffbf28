-- A process may restrict itself if it can't gain privileges. Else its capability decides.
use Rattle.std.proofs.Common.{rules}
use Rattle.ll_state.proofs.own_state.OwnState.may_restrict.Goals as goal

-- it can't gain privileges
pub returns-then-self : goal.returns-then-self
returns-then-self c = search rules

pub returns-else-self : goal.returns-else-self
returns-else-self c = search rules
