use Rattle.std.proofs.Common.{rules}
use Rattle.ll_explanations.specs.Meant.{above_by, path_in, reason_in}
use Rattle.ll_reasons.specs.Reasons.{linked_to}
use Rattle.ll_explanations.proofs.moves.linked_to.Goals as goal

pub returns-in-Node : goal.returns-in-Node
unfolding reason_in path_in above_by linked_to
returns-in-Node c = search rules

pub returns-in-Gap : goal.returns-in-Gap
unfolding reason_in path_in above_by linked_to
returns-in-Gap c = search rules

pub returns-in-Nowhere : goal.returns-in-Nowhere
unfolding reason_in path_in above_by linked_to
returns-in-Nowhere c = search rules
