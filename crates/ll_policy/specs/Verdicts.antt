-- How moves are answered: when one passes, the moves that others are made of, and moves that a domain doesn't tell apart, each in a tree of its own.
-- Source: landlock(7), "Filesystem actions", the right to move files between directories.
use Rattle.std.specs.Prelude.{◌≡◌, ℕ, Bool, true, false, List, [], ◌∷◌, All}
use Rattle.ll_rights.specs.Rights.{FsRight, only}
use Rattle.ll_lines.specs.Paths.{Path, path_eq, is_prefix}
use Rattle.ll_tree.specs.declared.place.NodeId.{NodeId}
use Rattle.ll_tree.specs.Trees.{Entry, path_at, kind_at}
use Rattle.ll_rules.specs.declared.moves.Move.{Move}
use Rattle.ll_rules.specs.declared.moves.How.TheVariants.{Rename, Exchange, Link}
use Rattle.ll_rules.specs.declared.moves.Target.{Target}
use Rattle.ll_rules.specs.declared.moves.Target.TheVariants.{New, Over}
use Rattle.ll_rules.specs.declared.moves.Verdict.{Verdict}
use Rattle.ll_rules.specs.declared.moves.Verdict.TheVariants.{Passed, Refused}
use Rattle.ll_rules.specs.declared.errno.Errno.TheVariants.{XDev}
use Rattle.ll_rules.specs.Layers.{RulesOn}
use Rattle.ll_rules.specs.Checks.{refusing}
use Rattle.ll_rules.specs.Moves.{move_verdict, source_of, destination_of, kind_there}

-- a verdict lets the move pass
abbrev pub passes : Verdict → Bool
passes Passed = true
passes (Refused error layers) = false

-- a domain lets a move pass
abbrev pub lets_pass : List (RulesOn Path) → List Entry → Move → Bool
lets_pass domain tree move = passes (move_verdict tree domain move)

abbrev pub is_none : List ℕ → Bool
is_none [] = true
is_none (layer ∷ layers) = false

-- a domain lets a right be used on a path
abbrev pub lets_use : List (RulesOn Path) → Path → FsRight → Bool
lets_use domain path right = is_none (refusing domain path (only right))

abbrev pub renaming : NodeId → Target → Move
renaming moved target = record { how = Rename; moved = moved; target = target }

abbrev pub linking : NodeId → Target → Move
linking linked target = record { how = Link; moved = linked; target = target }

abbrev pub exchanging : NodeId → NodeId → Move
exchanging one other = record { how = Exchange; moved = one; target = Over other }

-- ---- moves that are alike

-- the same rules of a layer are on or above both paths
abbrev pub SameAbove : Path → Path → RulesOn Path → Type 0
SameAbove p q layer = All (λ rule. is_prefix rule.0 p ≡ is_prefix rule.0 q) layer.file_rules

-- in each layer of a domain the same rules are on or above both paths
abbrev pub InOneRegion : List (RulesOn Path) → Path → Path → Type 0
InOneRegion domain p q = All (SameAbove p q) domain

-- the path of the target: of the object that is there already, or else of the directory
abbrev pub path_there : List Entry → Target → Path
path_there tree (New directory) = path_at tree directory
path_there tree (Over there) = path_at tree there

-- a move stays within a directory
abbrev pub stays : List Entry → Move → Bool
stays tree move = path_eq (source_of tree move) (destination_of tree move.target)

-- The two moves are made in the same way, with objects of the same kinds. The same rules are on or above the
-- sources, the destinations, the objects, and the objects that are there already.
pub record AreAlike (domain : List (RulesOn Path)) (tree : List Entry) (move : Move) (other_tree : List Entry) (other : Move) : Type 0 where
  pub how : move.how ≡ other.how
  pub kind : kind_at tree move.moved ≡ kind_at other_tree other.moved
  pub kind_there : kind_there tree move.target ≡ kind_there other_tree other.target
  pub source : InOneRegion domain (source_of tree move) (source_of other_tree other)
  pub destination : InOneRegion domain (destination_of tree move.target) (destination_of other_tree other.target)
  pub object : InOneRegion domain (path_at tree move.moved) (path_at other_tree other.moved)
  pub object_there : InOneRegion domain (path_there tree move.target) (path_there other_tree other.target)

-- what is left of a verdict where no directory is left
abbrev pub within_one_directory : Verdict → Verdict
within_one_directory Passed = Passed
within_one_directory (Refused XDev layers) = Passed
within_one_directory (Refused error layers) = Refused error layers
