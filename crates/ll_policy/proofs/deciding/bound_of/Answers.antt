use Rattle.std.proofs.Common.{ℕ, ◌<◌, subst}
use Rattle.std.specs.Prelude.{All}
use Rattle.ll_policy.specs.Chains.{Granting}
use Rattle.ll_policy.proofs.Below.{below_more, below_all, none_below, larger}
use Rattle.ll_policy.proofs.deciding.bound_of.Goals as goal

pub loop-layer-init : goal.loop-layer-init
loop-layer-init c = none_below 0 c.args.layers.now

pub loop-layer-preserved : goal.loop-layer-preserved
loop-layer-preserved c =
    let larger_than = larger c.loop-layer.bound c.bound.result c.max-bound.result c.max-bound.ensures in
    below_more c.loop-layer.bound c.bound.result c.max-bound.result c.args.layers.now c.loop-layer.layer-index c.layer-item.result
    c.loop-layer-test.true larger_than.0 larger_than.1 c.loop-layer.invariant
    (subst (λ (layer : Granting). All (λ (object : ℕ). object < c.bound.result) layer.grants) c.layer-item.is c.bound.ensures)

pub returns : goal.returns
returns c = below_all c.loop-layer.bound c.args.layers.now c.loop-layer.layer-index c.loop-layer-test.false c.loop-layer.invariant
