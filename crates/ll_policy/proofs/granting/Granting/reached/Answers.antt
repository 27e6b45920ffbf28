use Rattle.std.proofs.Common.{rules}
use Rattle.ll_policy.proofs.Spread.{reached_first, reached_next, reached_all}
use Rattle.ll_policy.proofs.granting.Granting.reached.Goals as goal

pub loop-index-init : goal.loop-index-init
loop-index-init c = reached_first c.args.parents.now c.args.self.now.grants c.push.new.self.items (search rules)

pub loop-index-preserved : goal.loop-index-preserved
loop-index-preserved c =
    reached_next c.args.parents.now c.args.self.now.grants c.loop-index.index c.loop-index.on.items c.push-in-loop-index.new.self.items
    (search rules) c.loop-index.invariant (search rules)

pub returns : goal.returns
returns c = reached_all c.args.parents.now c.args.self.now.grants c.loop-index.index c.loop-index.on.items (search rules) c.loop-index.invariant
