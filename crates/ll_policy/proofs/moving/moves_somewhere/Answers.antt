use Rattle.std.proofs.Common.{rules, map}
use Rattle.ll_policy.specs.Policies.{rules_of}
use Rattle.ll_policy.proofs.MovesInRegions.{moves_nowhere}
use Rattle.ll_policy.proofs.moving.moves_somewhere.Goals as goal

pub returns : goal.returns
returns c none =
    moves_nowhere c.args.parents.now (map rules_of c.args.layers.now) _ c.deref.result.now (search rules) (search rules) (c.passes_somewhere.ensures none)
