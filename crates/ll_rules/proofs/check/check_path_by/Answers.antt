use Rattle.std.proofs.Common.{◌∙◌, ◌&&◌, ap, Bool, List, not, length, ◌≤◌, rules}
use Rattle.ll_tree.specs.Trees.{path_at}
use Rattle.ll_rules.specs.declared.domain.TheConstants.{MOST_LAYERS}
use Rattle.ll_rules.specs.declared.domain.LayerId.{LayerId}
use Rattle.ll_rules.specs.Layers.{granted}
use Rattle.ll_rules.specs.InTree.{in_tree, all_in_tree}
use Rattle.ll_rules.specs.KeptLayers.{domain_of}
use Rattle.ll_rules.specs.Checks.{refusing}
use Rattle.ll_rules.specs.Lanes.{layer_in}
use Rattle.ll_rules.proofs.DomainLanes.{refusing_lanes}
use Rattle.ll_rules.proofs.check.check_path_by.Goals as goal

pub returns-clause-answer : goal.returns-clause-answer
returns-clause-answer c =
    let few : length c.layers.result.now ≤ MOST_LAYERS = rw c.layers.ensures.value c.layers.ensures.at_most_sixteen in
    c.filled.ensures
    ∙ refusing_lanes c.args.known.now.tree.now c.args.known.now.layers.now c.layers.result.now
    (path_at c.args.known.now.tree.now c.args.node) c.args.wanted c.climb-look_ups.new.lanes few
    (λ index right.
    c.climb-look_ups.ensures.left index right
    ∙ ap (λ (b : Bool). b && not
    (granted (in_tree c.args.known.now.tree.now (layer_in (domain_of c.args.known.now.layers.now c.layers.result.now) index)) (path_at
    c.args.known.now.tree.now c.args.node) right))
    (c.asked_in-lacking.ensures index right))
    ∙ ap (λ (ids : List LayerId). refusing (all_in_tree c.args.known.now.tree.now (domain_of c.args.known.now.layers.now ids)) (path_at
    c.args.known.now.tree.now c.args.node) c.args.wanted)
    c.layers.ensures.value

pub returns-clause-look_ups : goal.returns-clause-look_ups
returns-clause-look_ups c = search rules
