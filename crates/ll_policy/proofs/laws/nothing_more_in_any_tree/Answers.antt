use Rattle.ll_policy.proofs.Everywhere.{refuses_no_more_anywhere}
use Rattle.ll_policy.proofs.laws.nothing_more_in_any_tree.Goals as goal

pub returns : goal.returns
returns c is_file old new nothing tree ruled_in object within wanted none = refuses_no_more_anywhere is_file old new nothing tree ruled_in object
    within wanted none
