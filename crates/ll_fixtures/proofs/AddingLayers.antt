-- One layer more with rules on the nodes of a tree.
use Rattle.std.proofs.Common.{◌≡◌, ℕ, ◌<◌, List, [], ◌∷◌, ◌++◌, length, length-append, arith}
use Rattle.std.specs.Prelude.{All}
use Rattle.std.proofs.lemmas.List.Elements.{All-push, All-same}
use Rattle.ll_tree.specs.Trees.{Entry}
use Rattle.ll_rules.specs.InTree.{AreInTree}
use Rattle.ll_rules.specs.Layers.{RulesOn}
use Rattle.ll_rules.specs.KeptLayers.{IsDomainOf}
use Rattle.ll_rules.specs.declared.domain.LayerId.{LayerId}

pub layer_pushed : (tree : List Entry) (layers more : List (RulesOn ℕ)) (layer : RulesOn ℕ) → more ≡ layers ++ layer ∷ []
    → All (AreInTree tree) layers → AreInTree tree layer → All (AreInTree tree) more
layer_pushed tree layers more layer is all one = All-same (AreInTree tree) more _ is (All-push (AreInTree tree) layers layer all one)

-- the domain names indices of the longer list, too
pub still_domain : (layers more : List (RulesOn ℕ)) (layer : RulesOn ℕ) (ids : List LayerId) → more ≡ layers ++ layer ∷ []
    → IsDomainOf layers ids → IsDomainOf more ids
still_domain layers more layer ids is all = λ k d within. let here = all k d within in rw is (omega (arith, length-append layers (layer ∷ [])))

-- and so does the domain with the last of them
pub domain_pushed : (layers more : List (RulesOn ℕ)) (layer : RulesOn ℕ) (ids new : List LayerId) (id : LayerId) → more ≡ layers ++ layer ∷ []
    → new ≡ ids ++ id ∷ [] → id.0 ≡ length layers → IsDomainOf layers ids → IsDomainOf more new
domain_pushed layers more layer ids new id is news last all =
    All-same (λ (id : LayerId). id.0 < length more) new _ news
    (All-push (λ (id : LayerId). id.0 < length more) ids id (still_domain layers more layer ids is all)
    (rw is (omega (arith, length-append layers (layer ∷ [])))))
