-- The other number is open on the same, with the same layers kept. Every number but that one is open on what it was open on
-- before.
use Rattle.std.proofs.Common.{arith}
use Rattle.std.proofs.lemmas.Grind.{common_steps}
use Rattle.ll_state.specs.ConfinedCalls.{answering}
use Rattle.ll_state.proofs.own_state.OwnState.dup.Goals as goal

pub returns : goal.returns
unfolding answering
returns g c = grind (arith, common_steps)
