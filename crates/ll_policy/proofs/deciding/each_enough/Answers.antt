use Rattle.std.proofs.Common.{rules, sym}
use Rattle.ll_policy.proofs.Lists.{zip_weaker}
use Rattle.ll_policy.proofs.deciding.each_enough.Goals as goal

pub returns : goal.returns
returns c = zip_weaker _ _ (λ layer told says. rw (sym says.shows) (search rules)) _ _ c.in_ok-made_of_each.ensures
