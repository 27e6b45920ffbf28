use Rattle.ll_policy.proofs.LawLemmas.{enough_is_excess}
use Rattle.ll_policy.proofs.laws.single_objects_are_enough.Goals as goal

pub returns : goal.returns
returns c = enough_is_excess
