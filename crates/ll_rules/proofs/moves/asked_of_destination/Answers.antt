use Rattle.ll_rules.proofs.AskedRights.{two_asked}
use Rattle.ll_rules.proofs.moves.asked_of_destination.Goals as goal

pub returns-in-Some : goal.returns-in-Some
returns-in-Some c =
    λ right. rw (c.in-Some.is)
    (two_asked c.union.result c.make_right-in-Some.result c.remove_right.result _ _ right c.union.ensures c.make_right-in-Some.ensures c.remove_right.ensures)
