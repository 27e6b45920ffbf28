-- What an explanation names is in a tree.
-- Source: docs/FORMATS.md, "Explanations".
use Rattle.std.specs.Prelude.{ℕ, All, List}
use Rattle.ll_tree.specs.Trees.{Entry, IsNode}
use Rattle.ll_explanations.specs.Meanings.{IsMade}
use Rattle.ll_explanations.specs.declared.objection.Objection.{Objection}
use Rattle.ll_explanations.specs.declared.objection.Objection.TheVariants.{Missing, Closed, Gained, Mounting, Kept}
use Rattle.ll_explanations.specs.declared.objection.LayerObjection.{LayerObjection}
use Rattle.ll_explanations.specs.declared.explanation.Explanation.{Explanation}
use Rattle.ll_explanations.specs.declared.explanation.Explanation.TheVariants.{Nothing, Objections, Failure, Mootness}

-- the nodes that an objection names are nodes of the tree
abbrev pub IsObjectionIn : List Entry → Objection → Type 0
IsObjectionIn tree (Missing rights node) = IsNode tree node
IsObjectionIn tree (Closed rights port) = Unit {0}
IsObjectionIn tree (Gained object rights directory) = IsNode tree object × IsNode tree directory
IsObjectionIn tree Mounting = Unit {0}
IsObjectionIn tree (Kept right opened) = Unit {0}

-- those of each of these objections are
abbrev pub AreObjectionsIn : List Entry → List LayerObjection → Type 0
AreObjectionsIn tree all = All (λ one. IsObjectionIn tree one.objection) all

-- those of an explanation are
abbrev pub IsExplanationIn : List Entry → Explanation → Type 0
IsExplanationIn tree Nothing = Unit {0}
IsExplanationIn tree (Objections all) = AreObjectionsIn tree all
IsExplanationIn tree (Failure condition) = Unit {0}
IsExplanationIn tree (Mootness reason) = Unit {0}

-- a layer's objection names its layer and the record that made it, and nodes of the tree
abbrev pub IsNoted : List Entry → List ℕ → LayerObjection → Type 0
IsNoted tree layers one = IsMade layers one × IsObjectionIn tree one.objection
