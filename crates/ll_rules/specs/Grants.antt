-- What layers grant on the nodes of a tree, where it is known.
-- Source: landlock(7), "Landlock rules".
use Rattle.std.specs.Prelude.{◌≡◌, ℕ, List, Some, slice_get}
use Rattle.ll_rights.specs.declared.fs.Fs.{Fs}
use Rattle.ll_rights.specs.Rights.{FsRight, has}
use Rattle.ll_tree.specs.Trees.{Entry, path_at}
use Rattle.ll_rules.specs.Layers.{RulesOn, granted}
use Rattle.ll_rules.specs.KeptLayers.{layer_at}
use Rattle.ll_rules.specs.InTree.{in_tree, node}

-- each set, by the number of its node, has the rights that a layer grants there
abbrev pub AreGrantsOf : List Entry → RulesOn ℕ → List Fs → Type 0
AreGrantsOf tree rules sets =
    (number : ℕ) (set : Fs) → slice_get sets number ≡ Some set → (right : FsRight) → has set right ≡ granted (in_tree tree rules) (path_at tree (node number)) right

-- what is known of each layer, by its index, is what it grants
abbrev pub AreGrants : List Entry → List (RulesOn ℕ) → List (List Fs) → Type 0
AreGrants tree layers all = (index : ℕ) (sets : List Fs) → slice_get all index ≡ Some sets → AreGrantsOf tree (layer_at layers (record { 0 = index })) sets
