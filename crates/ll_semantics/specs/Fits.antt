-- Requests and moves whose nodes are of the tree.
-- Source: docs/FORMATS.md, "The tree file".
use Rattle.std.specs.Prelude.{List, Bool, ◌≡◌, true, false}
use Rattle.ll_tree.specs.Trees.{Entry, IsNode}
use Rattle.ll_semantics.specs.declared.request.Request.{Request}
use Rattle.ll_rules.specs.InTree.{IsTargetIn}
use Rattle.ll_rules.specs.declared.moves.Move.{Move}
use Rattle.ll_rules.specs.declared.moves.Target.{Target}
use Rattle.ll_rules.specs.declared.moves.Target.TheVariants.{New, Over}
use Rattle.ll_rules.specs.declared.moves.How.{How}
use Rattle.ll_rules.specs.declared.moves.How.TheVariants.{Rename, Exchange, Link}
use Rattle.ll_semantics.specs.Moves.{is_root}

-- a request on a node of the tree
abbrev pub IsFit : List Entry → Request → Type 0
IsFit tree request = IsNode tree request.node

-- an exchange is with an object, and a link is made in a gap
abbrev pub suits : How → Target → Bool
suits Rename target = true
suits Exchange (Over other) = true
suits Exchange (New directory) = false
suits Link (New directory) = true
suits Link (Over other) = false

-- a move of an object of the tree that isn't the root, to what is in the tree too
pub record IsFitMove (tree : List Entry) (asked : Move) : Type 0 where
  pub moved : IsNode tree asked.moved
  pub not_root : is_root asked.moved ≡ false
  pub target : IsTargetIn tree asked.target
  pub shape : suits asked.how asked.target ≡ true
