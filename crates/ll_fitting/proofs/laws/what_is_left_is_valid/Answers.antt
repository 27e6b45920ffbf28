use Rattle.ll_fitting.proofs.Left.{all_valid}
use Rattle.ll_fitting.proofs.laws.what_is_left_is_valid.Goals as goal

pub returns : goal.returns
returns c = all_valid
