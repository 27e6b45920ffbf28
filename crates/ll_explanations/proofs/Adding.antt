-- Objections that are added one after another, and what they mean layer by layer.
use Rattle.std.proofs.Common.{◌≡◌, ◌∙◌, ℕ, ◌+◌, ◌<◌, ◌≤◌, Bool, true, false, cond}
use Rattle.std.proofs.Common.{eqb, List, [], ◌∷◌, ◌++◌, map, refl, sym, ap, subst, append_assoc, arith}
use Rattle.std.specs.Prelude.{All, slice_get, ◌-◌}
use Rattle.std.proofs.lemmas.Bool.{ne_eqb, eq-eqb}
use Rattle.std.proofs.lemmas.List.{append-nil, map-append}
use Rattle.std.proofs.lemmas.List.Elements.{All-append, All-cons, All-head, All-nil, All-tail, All-weaker}
use Rattle.ll_tree.specs.Trees.{Entry}
use Rattle.ll_reasons.specs.Objections.{Objection, of_layer}
use Rattle.ll_explanations.specs.Adding.{Adds, IsOf}
use Rattle.ll_explanations.specs.InTree.{IsNoted}
use Rattle.ll_explanations.specs.Meanings.{by_layer, in_front, objection_in}
use Rattle.ll_explanations.specs.declared.objection.LayerObjection.{LayerObjection}

-- ---- of one layer

module _ (tree : List Entry) (layers : List ℕ) (number : ℕ) where
  pub adds_none : (all : List LayerObjection) → Adds tree layers number all all []
  adds_none all = record { more = []; behind = sym (append-nil all); each = All-nil (IsOf tree layers number); means = refl }

  pub adds_one : (old new : List LayerObjection) (one : LayerObjection) → new ≡ old ++ one ∷ [] → IsOf tree layers number one
      → Adds tree layers number old new (objection_in tree one.objection ∷ [])
  adds_one old new one pushed is = record {
    more = one ∷ [];
    behind = pushed;
    each = All-cons (IsOf tree layers number) one [] is (All-nil (IsOf tree layers number));
    means = refl;
  }

  pub adds_both : (old mid new : List LayerObjection) (first second : List Objection) → Adds tree layers number old mid first
      → Adds tree layers number mid new second → Adds tree layers number old new (first ++ second)
  adds_both old mid new first second one two = record {
    more = one.more ++ two.more;
    behind = two.behind ∙ ap (λ all. all ++ two.more) one.behind ∙ append_assoc old one.more two.more;
    each = All-append (IsOf tree layers number) one.more two.more one.each two.each;
    means = map-append (λ (said : LayerObjection). objection_in tree said.objection) one.more two.more
        ∙ ap (λ os. os ++ map (λ (said : LayerObjection). objection_in tree said.objection) two.more) one.means
        ∙ ap (λ os. first ++ os) two.means;
  }

  pub adds_two : (old mid new : List LayerObjection) (first second one two : List Objection) → Adds tree layers number old mid first
      → Adds tree layers number mid new second → first ≡ one → second ≡ two → Adds tree layers number old new (one ++ two)
  adds_two old mid new first second one two some more is also = rw (← is, ← also) (adds_both old mid new first second some more)

  pub adds_as : (old new : List LayerObjection) (objections others : List Objection) → objections ≡ others → Adds tree layers number old new objections
      → Adds tree layers number old new others
  adds_as old new objections others same adds = subst (λ (os : List Objection). Adds tree layers number old new os) same adds

-- ---- layer by layer

abbrev Groups : Type 0
Groups = List (ℕ × List Objection)

module _ (tree : List Entry) (n : ℕ) where
  abbrev said : List LayerObjection → List Objection
  said all = map (λ (one : LayerObjection). objection_in tree one.objection) all

  here : (layer : ℕ) (objection next : Objection) (more : List Objection) → layer ≡ n
      → in_front layer objection ((n, next ∷ more) ∷ []) ≡ (n, objection ∷ next ∷ more) ∷ []
  unfolding in_front
  here layer objection next more is = rw (is, eq-eqb n n refl) refl

  abbrev IsHere : LayerObjection → Type 0
  IsHere one = one.layer ≡ n

  abbrev IsBelow : LayerObjection → Type 0
  IsBelow one = one.layer < n

  grouped : (all : List LayerObjection) → All IsHere all → by_layer tree all ≡ of_layer n (said all)
  unfolding by_layer in_front
  grouped [] are = refl
  grouped (one ∷ []) are = ap (λ (m : ℕ). (m, objection_in tree one.objection ∷ []) ∷ []) (All-head IsHere one [] are)
  grouped (one ∷ two ∷ more) are =
      ap (in_front one.layer (objection_in tree one.objection)) (grouped (two ∷ more) (All-tail IsHere one (two ∷ more) are))
      ∙ here one.layer (objection_in tree one.objection) (objection_in tree two.objection) (said more) (All-head IsHere one (two ∷ more) are)

  split : (b : Bool) (whole alone first : ℕ × List Objection) (gs zs : Groups)
      → cond b (whole ∷ (gs ++ zs)) (alone ∷ first ∷ (gs ++ zs)) ≡ cond b (whole ∷ gs) (alone ∷ first ∷ gs) ++ zs
  split true whole alone first gs zs = refl
  split false whole alone first gs zs = refl

  apart : (layer : ℕ) (objection : Objection) (objections : List Objection) → layer < n
      → in_front layer objection (of_layer n objections) ≡ (layer, objection ∷ []) ∷ of_layer n objections
  unfolding in_front
  apart layer objection [] below = refl
  apart layer objection (next ∷ more) below = rw (ne_eqb n layer (λ same. absurd (omega (arith, same, below)))) refl

  front_of : (layer : ℕ) (objection : Objection) (groups : Groups) (objections : List Objection) → layer < n
      → in_front layer objection (groups ++ of_layer n objections) ≡ in_front layer objection groups ++ of_layer n objections
  unfolding in_front
  front_of layer objection [] objections below = apart layer objection objections below
  front_of layer objection (g ∷ gs) objections below =
      split (eqb g.0 layer) (layer, objection ∷ g.1) (layer, objection ∷ []) g gs (of_layer n objections)

  behind_others : (old more : List LayerObjection) → All IsBelow old → All IsHere more
      → by_layer tree (old ++ more) ≡ by_layer tree old ++ of_layer n (said more)
  unfolding by_layer
  behind_others [] more below are = grouped more are
  behind_others (one ∷ old) more below are =
      ap (in_front one.layer (objection_in tree one.objection)) (behind_others old more (All-tail IsBelow one old below) are)
      ∙ front_of one.layer (objection_in tree one.objection) (by_layer tree old) (said more) (All-head IsBelow one old below)

-- the objections of the layers up to a number, which mean these
pub record AreUpto (tree : List Entry) (layers : List ℕ) (n : ℕ) (all : List LayerObjection) (groups : List (ℕ × List Objection)) : Type 0 where
  pub means : by_layer tree all ≡ groups
  pub upto : All (λ one. one.layer ≤ n) all
  pub noted : All (IsNoted tree layers) all

pub none_yet : (tree : List Entry) (layers : List ℕ) (all : List LayerObjection) (groups : Groups) → all ≡ [] → [] ≡ groups → AreUpto tree layers 0 all groups
unfolding by_layer
none_yet tree layers all groups none is =
    subst (λ (all : List LayerObjection). AreUpto tree layers 0 all groups) (sym none)
    (record { means = is; upto = All-nil (λ (one : LayerObjection). one.layer ≤ 0); noted = All-nil (IsNoted tree layers) })

noted_of : (tree : List Entry) (layers : List ℕ) (number : ℕ) (positive : 0 < number) (one : LayerObjection) → IsOf tree layers number one
    → IsNoted tree layers one
noted_of tree layers number positive one of =
    let here : one.layer ≡ number = of.0 in
    ((omega (arith, positive, here), of.1 ∙ ap (λ (m : ℕ). slice_get layers (m - 1)) (sym here)), of.2)

module _ (tree : List Entry) (layers : List ℕ) (n : ℕ) (old : List LayerObjection) (groups : Groups) (are : AreUpto tree layers n old groups) where
  still_upto : All (λ (one : LayerObjection). one.layer ≤ n + 1) old
  still_upto =
      All-weaker (λ (one : LayerObjection). one.layer ≤ n) (λ (one : LayerObjection). one.layer ≤ n + 1) (λ one within. omega (arith, within))
      old are.upto

  -- one layer more
  pub layer_more : (new : List LayerObjection) (objections : List Objection) → Adds tree layers (n + 1) old new objections
      → AreUpto tree layers (n + 1) new (groups ++ of_layer (n + 1) objections)
  layer_more new objections adds =
      let here : All (λ (one : LayerObjection). one.layer ≡ n + 1) adds.more
      = All-weaker (IsOf tree layers (n + 1)) (λ (one : LayerObjection). one.layer ≡ n + 1) (λ one of. of.0) adds.more adds.each in
      let before : All (λ (one : LayerObjection). one.layer < n + 1) old
      = All-weaker (λ (one : LayerObjection). one.layer ≤ n) (λ (one : LayerObjection). one.layer < n + 1) (λ one within. omega (arith, within)) old are.upto in
      subst (λ (all : List LayerObjection). AreUpto tree layers (n + 1) all (groups ++ of_layer (n + 1) objections)) (sym adds.behind) (record {
        means = behind_others tree (n + 1) old adds.more before here ∙ ap (λ gs. gs ++ of_layer (n + 1) (said tree (n + 1) adds.more)) are.means
            ∙ ap (λ os. groups ++ of_layer (n + 1) os) adds.means;
        upto = All-append (λ (one : LayerObjection). one.layer ≤ n + 1) old adds.more still_upto
            (All-weaker (λ (one : LayerObjection). one.layer ≡ n + 1) (λ (one : LayerObjection). one.layer ≤ n + 1) (λ one same. omega (arith, same))
            adds.more here);
        noted = All-append (IsNoted tree layers) old adds.more are.noted
            (All-weaker (IsOf tree layers (n + 1)) (IsNoted tree layers) (noted_of tree layers (n + 1) (omega arith)) adds.more adds.each);
      })

  -- none of the next layer
  pub layer_without : (others : Groups) → groups ≡ others → AreUpto tree layers (n + 1) old others
  layer_without others same = record { means = are.means ∙ same; upto = still_upto; noted = are.noted }
