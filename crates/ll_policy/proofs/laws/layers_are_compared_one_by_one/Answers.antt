use Rattle.ll_policy.proofs.LawLemmas.{by_layers}
use Rattle.ll_policy.proofs.laws.layers_are_compared_one_by_one.Goals as goal

pub returns-clause-all : goal.returns-clause-all
returns-clause-all c is_file always old new = by_layers is_file always old new
