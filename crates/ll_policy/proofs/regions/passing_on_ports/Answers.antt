use Rattle.std.proofs.Common.{rules, sym, map}
use Rattle.ll_rights.specs.CodeRights.{net_right}
use Rattle.ll_policy.specs.Policies.{rules_of}
use Rattle.ll_policy.specs.Regions.{TellsPorts}
use Rattle.ll_policy.proofs.Lists.{zip_named, zip_weaker}
use Rattle.ll_policy.proofs.regions.passing_on_ports.Goals as goal

pub returns : goal.returns
returns c =
    zip_named (TellsPorts c.args.count (map rules_of c.args.old.now) (map rules_of c.args.new.now)) net_right _ _ _ c.all.ensures
    (zip_weaker _ _ (λ right told says. rw (sym says.shows) (search rules)) _ _ c.in_ok-made_of_each.ensures)
