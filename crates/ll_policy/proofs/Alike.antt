-- Chains with the same objects on them pass alike.
use Rattle.std.proofs.Common.{◌≡◌, ℕ, true, List, [], map}
use Rattle.std.specs.Prelude.{◌↔◌, All}
use Rattle.std.specs.List.{Contains}
use Rattle.std.proofs.lemmas.List.Elements.{All-contains}
use Rattle.ll_rights.specs.Rights.{FsRight, only}
use Rattle.ll_lines.specs.Paths.{Path}
use Rattle.ll_tree.specs.Trees.{Entry}
use Rattle.ll_rules.specs.Layers.{RulesOn}
use Rattle.ll_rules.specs.InTree.{all_in_tree}
use Rattle.ll_rules.specs.Checks.{refusing}
use Rattle.ll_policy.specs.Chains.{Granting, lets, passes}
use Rattle.ll_policy.specs.Granted.{granting}
use Rattle.ll_policy.specs.WaysUp.{ruled, all_ruled, way_up}
use Rattle.ll_policy.proofs.Lists.{each_passes, passes_among, in_flat_map}
use Rattle.ll_policy.proofs.Exactly.{more_lets}
use Rattle.ll_policy.proofs.Bridge.{refuses_none}

more_passes : (part chain : List ℕ) (layers : List Granting) → All (Contains chain) part → passes layers part ≡ true → passes layers chain ≡ true
unfolding passes
more_passes part chain layers within passing =
    each_passes (lets chain) layers
    (λ layer inside. more_lets part chain layer within (passes_among (lets part) layers layer passing inside))

pub refused_in_region : (tree : List Entry) (layers : List (RulesOn ℕ)) (nodes chain : List ℕ) (path : Path) (right : FsRight)
    → All (Contains nodes) (all_ruled layers) → All (Contains chain) (way_up tree nodes path) → All (Contains (way_up tree nodes path)) chain
    → (passes (map (granting right) layers) chain ≡ true) ↔ (refusing (all_in_tree tree layers) path (only right) ≡ [])
unfolding all_ruled
refused_in_region tree layers nodes chain path right listed on under =
    let refused = refuses_none tree nodes path right 1 layers
    (λ layer inside number ruled_there. All-contains (Contains nodes) (all_ruled layers) number listed
    (in_flat_map ruled layers layer number inside ruled_there)) in (
      λ passing. refused.0 (more_passes chain (way_up tree nodes path) (map (granting right) layers) under passing),
      λ none. more_passes (way_up tree nodes path) chain (map (granting right) layers) on (refused.1 none),
    )
