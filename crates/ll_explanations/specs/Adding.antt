-- The objections of a layer behind those of the layers before it, and of all layers.
-- Source: docs/FORMATS.md, "Explanations".
use Rattle.std.specs.Prelude.{◌≡◌, ◌-◌, ℕ, All, List, ◌++◌, map, slice_get, Vec}
use Rattle.std.specs.declared.alloc.Global.{Global}
use Rattle.ll_tree.specs.Trees.{Entry}
use Rattle.ll_reasons.specs.Objections.{Objection}
use Rattle.ll_explanations.specs.InTree.{IsNoted, IsObjectionIn}
use Rattle.ll_explanations.specs.Meanings.{by_layer, objection_in}
use Rattle.ll_explanations.specs.declared.confinement.Confinement.{Confinement}
use Rattle.ll_explanations.specs.declared.confinement.OneLayer.{OneLayer}
use Rattle.ll_explanations.specs.declared.objection.LayerObjection.{LayerObjection}

-- an objection is one of the layer of a number, of which the record that made it is told, and names nodes of the tree
abbrev pub IsOf : List Entry → List ℕ → ℕ → LayerObjection → Type 0
IsOf tree layers number one = (one.layer ≡ number) × (one.made ≡ slice_get layers (number - 1)) × IsObjectionIn tree one.objection

-- some objections of the layer of a number stand behind what was there
pub record Adds (tree : List Entry) (layers : List ℕ) (number : ℕ) (old new : List LayerObjection) (objections : List Objection) : Type 0 where
  pub more : List LayerObjection
  pub behind : new ≡ old ++ more
  pub each : All (IsOf tree layers number) more
  pub means : map (λ one. objection_in tree one.objection) more ≡ objections

abbrev pub AddsOf : OneLayer → List LayerObjection → List LayerObjection → List Objection → Type 0
AddsOf layer = Adds layer.ctx.tree.now layer.ctx.trail.now.layers.items layer.number

-- these say what layers object to, layer after layer, and each is noted
pub record AreObjections (ctx : Confinement) (meant : List (ℕ × List Objection)) (all : Vec LayerObjection Global) : Type 0 where
  pub said : by_layer ctx.tree.now all.items ≡ meant
  pub noted : All (IsNoted ctx.tree.now ctx.trail.now.layers.items) all.items
