use Rattle.std.proofs.Common.{◌∙◌, ℕ, ap, sym}
use Rattle.ll_rules.specs.Layers.{RulesOn, handles}
use Rattle.ll_rules.specs.KeptLayers.{layer_at}
use Rattle.ll_rules.proofs.Granting.{lacking_by, there}
use Rattle.ll_rules.proofs.grants.lacks_by.Goals as goal

pub returns : goal.returns
returns c = λ tree known.
    let grants = there c.in_ok-get.field-0 c.get.result _ _ c.in_ok-get.was c.get.ensures.lookup.0 c.get.ensures.lookup.1 in
    c.lacks.ensures
    ∙ lacking_by tree (layer_at c.args.layers.now c.args.id) c.args.node c.args.wanted c.handled-handled.result c.in_ok-granted.granted
    (λ right. c.handled-handled.ensures.handled right ∙ ap (λ (rules : RulesOn ℕ). handles rules right) c.layer_of.ensures)
    (λ right. known c.args.id.0 c.in_ok-get.field-0.now grants c.args.node.0 c.in_ok-granted.granted (sym c.on.ensures ∙ c.in_ok-granted.was) right)
