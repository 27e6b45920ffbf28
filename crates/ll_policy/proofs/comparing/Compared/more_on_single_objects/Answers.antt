use Rattle.std.proofs.Common.{rules, sym}
use Rattle.ll_policy.proofs.Lists.{zip_weaker}
use Rattle.ll_policy.proofs.comparing.Compared.more_on_single_objects.Goals as goal

pub returns : goal.returns
returns c = zip_weaker _ _ (λ right told says. rw (sym says.shows.0, sym says.shows.1) (search rules)) _ _ c.in_ok-found_of_each.ensures
