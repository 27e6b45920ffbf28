use Rattle.std.proofs.Common.{rules, sym, map}
use Rattle.ll_rights.specs.CodeRights.{fs_right}
use Rattle.ll_policy.specs.Policies.{rules_of}
use Rattle.ll_policy.specs.Regions.{TellsRegions}
use Rattle.ll_policy.proofs.Lists.{zip_named, zip_weaker}
use Rattle.ll_policy.proofs.regions.passing_on_objects.Goals as goal

pub returns : goal.returns
returns c =
    zip_named (TellsRegions c.args.asked c.args.parents.now (map rules_of c.args.old.now) (map rules_of c.args.new.now)) fs_right _ _ _ c.all.ensures
    (zip_weaker _ _ (λ right told says. rw (sym says.shows) (search rules)) _ _ c.in_ok-made_of_each.ensures)
