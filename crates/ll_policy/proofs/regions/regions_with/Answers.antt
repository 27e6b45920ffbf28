use Rattle.std.proofs.Common.{rules, map}
use Rattle.ll_rights.specs.CodeRights.{fs_right}
use Rattle.ll_policy.specs.Granted.{granting}
use Rattle.ll_policy.specs.Policies.{rules_of}
use Rattle.ll_policy.proofs.Spread.{told_of_regions}
use Rattle.ll_policy.proofs.regions.regions_with.Goals as goal

pub returns : goal.returns
returns c =
    told_of_regions c.args.parents.now _ (map (granting (fs_right c.args.right)) (map rules_of c.args.old.now))
    (map (granting (fs_right c.args.right)) (map rules_of c.args.new.now)) _ _ c.in_ok-passing_of.field-0 (search rules) (search rules) (search rules)
    c.in_ok-passing_of.ensures
