-- The layers of a process with rules on paths, and where what it has comes from.
-- Source: landlock(7), "Landlock rules".
use Rattle.std.specs.Prelude.{List}
use Rattle.std.specs.FinMap.{get}
use Rattle.ll_rules.specs.InTree.{all_in_tree, in_tree}
use Rattle.ll_rules.specs.KeptLayers.{domain_of, layer_at}
use Rattle.ll_semantics.specs.States.{Layer}
use Rattle.ll_reasons.specs.Origins.{Origins}
use Rattle.ll_origins.specs.TraceOrigins.{opened}
use Rattle.ll_origins.specs.declared.trail.ProcessOrigins.{ProcessOrigins}
use Rattle.ll_explanations.specs.declared.confinement.Confinement.{Confinement}
use Rattle.ll_explanations.specs.declared.confinement.OneLayer.{OneLayer}

-- the layers, the oldest first
abbrev pub stacked : Confinement → List Layer
stacked ctx = all_in_tree ctx.tree.now (domain_of ctx.layers.now ctx.domain.now)

-- the rules of one of them
abbrev pub rules_of : OneLayer → Layer
rules_of layer = in_tree layer.ctx.tree.now (layer_at layer.ctx.layers.now layer.id)

-- where what a process has comes from, as its trail keeps it
abbrev pub followed : ProcessOrigins → Origins
followed trail = record { layers = trail.layers.items; openings = λ fd. opened trail.openings fd; rulesets = λ rs. get trail.rulesets rs }
