use Rattle.std.proofs.Common.{◌∙◌, ℕ, length, not, ap}
use Rattle.std.specs.Prelude.{◌==◌}
use Rattle.ll_rights.specs.Rights as files
use Rattle.ll_rules.specs.Checks.{refusing_mount}
use Rattle.ll_rules.specs.Layers.{RulesOn}
use Rattle.ll_rules.specs.KeptLayers.{domain_of, layer_at}
use Rattle.ll_explanations.proofs.Lacking.{numbers-alone}
use Rattle.ll_explanations.proofs.ports.handles_files.Goals as goal

pub returns : goal.returns
returns c =
    let layers = c.args.layer.now.ctx.layers.now in
    ap not (c.is_empty.ensures.empty
    ∙ ap (λ numbers. length numbers == 0) (c.check_mount.ensures ∙ ap (λ ids. refusing_mount (domain_of layers ids)) c.alone.ensures))
    ∙ numbers-alone (λ (layer : RulesOn ℕ). not (files.is_empty layer.handled_files)) (layer_at layers c.args.layer.now.id)
