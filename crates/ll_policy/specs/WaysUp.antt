-- Ways up in a tree as chains: of some nodes, those on the way from the root to an object.
-- Source: landlock(7), "Landlock rules".
use Rattle.std.specs.Prelude.{◌≡◌, ℕ, ◌<◌, Bool, not, List, ◌∷◌, map, filter, length, All}
use Rattle.std.specs.List.{flat_map}
use Rattle.ll_rights.specs.declared.kind.Kind.TheVariants.{Dir}
use Rattle.ll_lines.specs.Paths.{Path, is_prefix}
use Rattle.ll_tree.specs.Trees.{Entry, path_at, kind_at, is_dir}
use Rattle.ll_tree.specs.TreeFacts.{IsTree}
use Rattle.ll_rules.specs.declared.moves.Target.{Target}
use Rattle.ll_rules.specs.declared.moves.Target.TheVariants.{New, Over}
use Rattle.ll_rules.specs.Layers.{RulesOn}
use Rattle.ll_rules.specs.InTree.{node, AreInTree}

-- the nodes that a layer has rules on
abbrev pub ruled : RulesOn ℕ → List ℕ
ruled layer = map (λ rule. rule.0) layer.file_rules

-- the nodes that some layer has rules on
unfoldable pub all_ruled : List (RulesOn ℕ) → List ℕ
all_ruled layers = flat_map ruled layers

-- of the root and some nodes, those on the way from the root to a path
unfoldable pub way_up : List Entry → List ℕ → Path → List ℕ
way_up tree nodes path = filter (λ number. is_prefix (path_at tree (node number)) path) (0 ∷ nodes)

-- whether an object of a tree is no directory
abbrev pub is_file_at : List Entry → ℕ → Bool
is_file_at tree number = not (is_dir (kind_at tree (node number)))

-- the target of a move is a directory, or an object that is there already
abbrev pub IsTargetOf : List Entry → Target → Type 0
IsTargetOf tree (New directory) = kind_at tree directory ≡ Dir
IsTargetOf tree (Over there) = Unit {0}

-- Two domains with rules on the nodes of a tree, of which a test tells the files.
pub record AreRuledIn (is_file : ℕ → Bool) (old new : List (RulesOn ℕ)) (tree : List Entry) : Type 0 where
  pub listed : IsTree tree
  pub tells : (number : ℕ) → number < length tree → is_file number ≡ is_file_at tree number
  pub old_inside : All (AreInTree tree) old
  pub new_inside : All (AreInTree tree) new
