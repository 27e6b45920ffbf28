use Rattle.ll_policy.proofs.Everywhere.{passes_no_more_anywhere}
use Rattle.ll_policy.proofs.laws.no_move_passes_more.Goals as goal

pub returns : goal.returns
returns c is_file old new nothing gaining tree ruled_in attempt within there_in of passing = passes_no_more_anywhere is_file old new nothing tree ruled_in
    gaining attempt within there_in of passing
