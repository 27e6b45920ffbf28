use Rattle.std.proofs.Common.{◌∙◌, ℕ, ap, refl}
use Rattle.ll_rules.specs.Layers.{RulesOn}
use Rattle.ll_rules.specs.Checks.{lacks_on_port}
use Rattle.ll_rules.proofs.Domains.{refuses_on_port, noted_more, noted_all, refusing_port_by_name}
use Rattle.ll_rules.proofs.check.check_port.Goals as goal

pub loop-index-preserved : goal.loop-index-preserved
unfolding refuses_on_port
loop-index-preserved c =
    let tells = c.refuses_on_port-closed.ensures ∙ ap (λ (layer : RulesOn ℕ). lacks_on_port layer c.args.port c.args.wanted) c.layer_of.ensures in
    noted_more (refuses_on_port c.args.layers.now c.args.port c.args.wanted) c.layers-ids.result.now c.loop-index.index _ c.loop-index.refusing
    c.noted-refusing.result _ c.refuses_on_port-closed.result c.loop-index-test.true tells c.noted-refusing.ensures c.loop-index.invariant.so_far
    c.loop-index.invariant.below

pub returns : goal.returns
returns c =
    noted_all (refuses_on_port c.args.layers.now c.args.port c.args.wanted) c.layers-ids.result.now c.loop-index.index c.loop-index.refusing _
    c.loop-index-test.false c.loop-index.invariant.so_far
    ∙ refusing_port_by_name c.args.layers.now c.layers-ids.result.now c.args.port c.args.wanted
    ∙ rw c.layers-ids.ensures.value refl
