-- A rename into a gap asks the policy, but for an exchange and for a move under itself.
use Rattle.std.proofs.Common.{rules}
use Rattle.ll_semantics.specs.Moves.{rename_into}
use Rattle.ll_state.proofs.moves.rename_into.Goals as goal

pub returns-then-exchange-clause-exact : goal.returns-then-exchange-clause-exact
unfolding rename_into
returns-then-exchange-clause-exact c = search rules

pub returns-clause-exact : goal.returns-clause-exact
unfolding rename_into
returns-clause-exact c = search rules
