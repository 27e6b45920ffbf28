-- What a number is open on answers the calls on open numbers.
use Rattle.std.proofs.Common.{rules}
use Rattle.ll_state.specs.ConfinedCalls.{by_layers}
use Rattle.ll_state.proofs.own_state.OwnState.answer.Goals as goal

pub returns-in-Ftruncate : goal.returns-in-Ftruncate
unfolding by_layers
returns-in-Ftruncate g c = search rules

pub returns-in-Ioctl : goal.returns-in-Ioctl
unfolding by_layers
returns-in-Ioctl g c = search rules
