use Rattle.std.proofs.Common.{◌∙◌, ℕ, length, not, ap}
use Rattle.std.specs.Prelude.{◌==◌}
use Rattle.ll_rules.specs.Checks.{lacks_on_port, refusing_port}
use Rattle.ll_rules.specs.Layers.{RulesOn, granted_on_port}
use Rattle.ll_rules.specs.KeptLayers.{domain_of, layer_at}
use Rattle.ll_explanations.proofs.Lacking.{numbers-alone}
use Rattle.ll_explanations.proofs.ports.lacks_on_port.Goals as goal

pub returns : goal.returns
unfolding granted_on_port
returns c =
    let layers = c.args.layer.now.ctx.layers.now in
    ap not (c.is_empty.ensures.empty
    ∙ ap (λ numbers. length numbers == 0) (c.check_port.ensures ∙ ap (λ ids. refusing_port (domain_of layers ids) c.args.port c.args.rights) c.alone.ensures))
    ∙ numbers-alone (λ (layer : RulesOn ℕ). lacks_on_port layer c.args.port c.args.rights) (layer_at layers c.args.layer.now.id)
