use Rattle.std.proofs.Common.{rules, map}
use Rattle.ll_policy.specs.Chains.{is_file_in}
use Rattle.ll_policy.specs.Policies.{rules_of}
use Rattle.ll_policy.proofs.MovesInRegions.{told_of_moves}
use Rattle.ll_policy.proofs.moving.moves_of.Goals as goal

pub returns : goal.returns
returns c =
    told_of_moves (is_file_in c.args.files.now) c.args.parents.now c.args.kind _ (map rules_of c.args.old.now) (map rules_of c.args.new.now) _ _
    c.in_ok-moved_to_each.field-0.items (search rules) (search rules) (search rules) c.in_ok-moved_to_each.ensures
