-- The error is moot by a layer that handles nothing, and stands where no layer is given.
use Rattle.std.proofs.Common.{arith, rules}
use Rattle.std.proofs.lemmas.Grind.{common_steps}
use Rattle.ll_state.specs.Agreement.{fails_by_layer}
use Rattle.ll_state.proofs.own_state.restricting.fails_by.Goals as goal

pub returns-in_default : goal.returns-in_default
unfolding fails_by_layer
returns-in_default c = search rules

pub returns-then-handles_nothing : goal.returns-then-handles_nothing
unfolding fails_by_layer
returns-then-handles_nothing c = grind (arith, common_steps)
