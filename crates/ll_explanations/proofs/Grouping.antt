-- What is said of objections one after another is what is said of them layer by layer.
use Rattle.std.proofs.Common.{◌≡◌, ◌∙◌, ℕ, Bool, true, false, cond, eqb, List, [], ◌∷◌, ◌++◌, refl, ap}
use Rattle.std.specs.Prelude.{All}
use Rattle.std.proofs.lemmas.List.Elements.{All-head, All-tail}
use Rattle.ll_tree.specs.Trees.{Entry}
use Rattle.ll_reasons.specs.Objections.{Objection}
use Rattle.ll_explanations.specs.Meanings.{IsMade, by_layer, in_front, objection_in}
use Rattle.ll_explanations.specs.declared.objection.LayerObjection.{LayerObjection}

abbrev pub Groups : Type 0
Groups = List (ℕ × List Objection)

-- the objections of this layer that follow, and the groups behind them
abbrev pub same_of : ℕ → Groups → List Objection
same_of layer [] = []
same_of layer (g ∷ gs) = cond (eqb g.0 layer) g.1 []

abbrev pub later_of : ℕ → Groups → Groups
later_of layer [] = []
later_of layer (g ∷ gs) = cond (eqb g.0 layer) gs (g ∷ gs)

pub fronted : (layer : ℕ) (objection : Objection) (groups : Groups)
    → in_front layer objection groups ≡ (layer, objection ∷ same_of layer groups) ∷ later_of layer groups
unfolding in_front
fronted layer objection [] = refl
fronted layer objection (g ∷ gs) = go (eqb g.0 layer) where
  go : (b : Bool) → cond b ((layer, objection ∷ g.1) ∷ gs) ((layer, objection ∷ []) ∷ g ∷ gs) ≡ (layer, objection ∷ cond b g.1 []) ∷ cond b gs (g ∷ gs)
  go true = refl
  go false = refl

-- What is said from an objection on begins with what is said of this one. It is what is to be said of all groups, if this is so of what is
-- to be said of groups behind an objection of a layer (`rest`), and from layer 0 on that is all (`whole`).
module _ {X : Type 0} (tree : List Entry) (layers : List ℕ) (next : ℕ → LayerObjection → List X) (from : ℕ → List LayerObjection → List X)
    (rest : ℕ → Groups → List X) (whole : Groups → List X) (none : (before : ℕ) → from before [] ≡ rest before [])
    (more : (before : ℕ) (one : LayerObjection) (others : List LayerObjection) → from before (one ∷ others) ≡ next before one ++ from one.layer others)
    (said : (before : ℕ) (one : LayerObjection) (groups : Groups) → IsMade layers one
    → next before one ++ rest one.layer groups ≡ rest before (in_front one.layer (objection_in tree one.objection) groups))
    (nothing : rest 0 [] ≡ whole [])
    (begun : (one : LayerObjection) (groups : Groups) → IsMade layers one
    → rest 0 (in_front one.layer (objection_in tree one.objection) groups) ≡ whole (in_front one.layer (objection_in tree one.objection) groups)) where
  from_there : (before : ℕ) (all : List LayerObjection) → All (IsMade layers) all → from before all ≡ rest before (by_layer tree all)
  unfolding by_layer
  from_there before [] made = none before
  from_there before (one ∷ others) made =
      more before one others
      ∙ ap (λ t. next before one ++ t) (from_there one.layer others (All-tail (IsMade layers) one others made))
      ∙ said before one (by_layer tree others) (All-head (IsMade layers) one others made)

  pub grouped : (all : List LayerObjection) → All (IsMade layers) all → from 0 all ≡ whole (by_layer tree all)
  unfolding by_layer
  grouped [] made = none 0 ∙ nothing
  grouped (one ∷ others) made =
      from_there 0 (one ∷ others) made ∙ begun one (by_layer tree others) (All-head (IsMade layers) one others made)
