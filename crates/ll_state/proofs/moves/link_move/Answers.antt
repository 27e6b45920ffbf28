-- A link asks the policy where an object that isn't a directory gets one more name.
use Rattle.std.proofs.Common.{rules}
use Rattle.ll_semantics.specs.Moves.{link_move, link_to}
use Rattle.ll_state.proofs.moves.link_move.Goals as goal

pub returns-clause-exact : goal.returns-clause-exact
unfolding link_move link_to
returns-clause-exact c = search rules

pub returns-clause-fit : goal.returns-clause-fit
returns-clause-fit c = search rules
