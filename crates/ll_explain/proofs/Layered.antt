-- What is said of objections one after another is what is said of the layers, if that is so of one objection and those of its layer behind it.
-- A layer's part is its objections, each said alike, and an end.
use Rattle.std.proofs.Common.{◌≡◌, ◌∙◌, ℕ, ◌<◌, Bool, true, false, cond, eqb, List, [], ◌∷◌, ◌++◌, refl, sym, ap, ap₂, append-nil, arith}
use Rattle.std.specs.Prelude.{All}
use Rattle.std.proofs.lemmas.Bool.{ne_eqb}
use Rattle.ll_tree.specs.Trees.{Entry}
use Rattle.ll_reasons.specs.Objections.{Objection}
use Rattle.ll_explanations.specs.Meanings.{IsMade, by_layer, in_front, objection_in}
use Rattle.ll_explanations.proofs.Grouping.{Groups, fronted, grouped, later_of, same_of}
use Rattle.ll_explanations.specs.declared.objection.LayerObjection.{LayerObjection}

module _ {A : Type 0} (ending : ℕ → List A) (tail : List A) (each : List Objection → List A) (all_of : Groups → List A) where
  -- what is to be said of groups behind an objection of this layer
  abbrev pub rest_of : ℕ → Groups → List A
  rest_of before [] = ending before
  rest_of before (g ∷ gs) = cond (eqb g.0 before) (each g.1 ++ (tail ++ all_of gs)) (ending before ++ all_of (g ∷ gs))

  module _ (bare : each [] ≡ []) (none_left : all_of [] ≡ []) (unbegun : ending 0 ≡ []) (ended : (layer : ℕ) → 0 < layer → ending layer ≡ tail) where
    rest_is : (layer : ℕ) (groups : Groups) → 0 < layer → rest_of layer groups ≡ each (same_of layer groups) ++ (tail ++ all_of (later_of layer groups))
    rest_is layer [] positive = ended layer positive ∙ sym (append-nil tail) ∙ sym (ap₂ (λ b w. b ++ (tail ++ w)) bare none_left)
    rest_is layer (g ∷ gs) positive = go (eqb g.0 layer) where
      go : (b : Bool) → cond b (each g.1 ++ (tail ++ all_of gs)) (ending layer ++ all_of (g ∷ gs))
          ≡ each (cond b g.1 []) ++ (tail ++ all_of (cond b gs (g ∷ gs)))
      go true = refl
      go false = ap (λ t. t ++ all_of (g ∷ gs)) (ended layer positive) ∙ sym (ap (λ b. b ++ (tail ++ all_of (g ∷ gs))) bare)

    module _ (tree : List Entry) (layers : List ℕ) (next : ℕ → LayerObjection → List A)
        (one_said : (before : ℕ) (one : LayerObjection) (os : List Objection) (gs : Groups) → IsMade layers one
        → next before one ++ (each os ++ (tail ++ all_of gs)) ≡ rest_of before ((one.layer, objection_in tree one.objection ∷ os) ∷ gs)) where
      -- an objection in front of groups joins the first of them, or is a group of its own
      next_said : (before : ℕ) (one : LayerObjection) (groups : Groups) → IsMade layers one
          → next before one ++ rest_of one.layer groups ≡ rest_of before (in_front one.layer (objection_in tree one.objection) groups)
      next_said before one groups made =
          ap (λ t. next before one ++ t) (rest_is one.layer groups made.0)
          ∙ one_said before one (same_of one.layer groups) (later_of one.layer groups) made
          ∙ ap (rest_of before) (sym (fronted one.layer (objection_in tree one.objection) groups))

      -- no layer is before the first
      begun : (one : LayerObjection) (groups : Groups) → IsMade layers one
          → rest_of 0 (in_front one.layer (objection_in tree one.objection) groups) ≡ all_of (in_front one.layer (objection_in tree one.objection) groups)
      begun one groups made =
          rw (fronted one.layer (objection_in tree one.objection) groups, ne_eqb one.layer 0 (λ zero. absurd (omega (arith, zero, made.0))), unbegun) refl

      pub all_layered : (from : ℕ → List LayerObjection → List A) → ((before : ℕ) → from before [] ≡ ending before)
          → ((before : ℕ) (one : LayerObjection) (others : List LayerObjection) → from before (one ∷ others) ≡ next before one ++ from one.layer others)
          → (all : List LayerObjection) → All (IsMade layers) all → from 0 all ≡ all_of (by_layer tree all)
      all_layered from none more = grouped tree layers next from rest_of all_of none more next_said (unbegun ∙ sym none_left) begun
