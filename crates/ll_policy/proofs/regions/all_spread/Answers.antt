use Rattle.std.proofs.Common.{rules, sym}
use Rattle.std.proofs.lemmas.Slice.Zip.{AllZip-map}
use Rattle.ll_policy.specs.Regions.{spread}
use Rattle.ll_policy.proofs.Lists.{zip_weaker}
use Rattle.ll_policy.proofs.regions.all_spread.Goals as goal

pub returns : goal.returns
returns c =
    AllZip-map (spread c.args.parents.now) _ _
    (zip_weaker _ _ (λ layer told says. rw (sym says.shows) (search rules)) _ _ c.in_ok-made_of_each.ensures)
