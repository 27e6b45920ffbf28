-- What each layer of a process is asked, and what it objects to in that.
-- Source: landlock(7), "Landlock rules"; rename(2); link(2); the kernel's userspace document on Landlock, "Layers of file path access rights".
use Rattle.std.specs.Prelude.{◌≡◌, List}
use Rattle.ll_rights.specs.Rights.{FsRight, has}
use Rattle.ll_tree.specs.Trees.{Entry, IsNode, kind_at, path_at}
use Rattle.ll_tree.specs.TreeFacts.{IsTree}
use Rattle.ll_rules.specs.InTree.{IsTargetIn}
use Rattle.ll_rules.specs.Moves.{asked_of_destination, asked_of_source, source_of, destination_of, kind_there}
use Rattle.ll_semantics.specs.States.{Layer}
use Rattle.ll_reasons.specs.Objections.{Objection, on_mount, on_move, on_path, on_port, one_of}
use Rattle.ll_explanations.specs.Meanings.{IsOne}
use Rattle.ll_explanations.specs.declared.asked.Asked.{Asked}
use Rattle.ll_explanations.specs.declared.moved.MoveRequest.{MoveRequest}
use Rattle.ll_explanations.specs.declared.asked.Asked.TheVariants.{OnNode, OnPort, Mounting, Moving}

unfoldable pub objected : List Entry → Asked → Layer → List Objection
objected tree (OnNode node rights) = on_path (path_at tree node) (has rights)
objected tree (OnPort port right) = on_port port right
objected tree Mounting = on_mount
objected tree (Moving request error) = on_move tree request.attempt error

-- a move with its two directories, and what it asks of them
pub record IsMoveRequest (tree : List Entry) (request : MoveRequest) : Type 0 where
  pub is_tree : IsTree tree
  pub moved : IsNode tree request.attempt.moved
  pub target : IsTargetIn tree request.attempt.target
  pub source : IsNode tree request.source
  pub from : path_at tree request.source ≡ source_of tree request.attempt
  pub leaving : (right : FsRight) → has request.leaving right ≡ one_of (asked_of_source request.attempt.how (kind_at tree request.attempt.moved) (kind_there tree request.attempt.target)) right
  pub destination : IsNode tree request.destination
  pub into : path_at tree request.destination ≡ destination_of tree request.attempt.target
  pub entering : (right : FsRight) → has request.entering right ≡ one_of (asked_of_destination (kind_at tree request.attempt.moved) (kind_there tree request.attempt.target)) right

-- nodes are of the tree, and one right is asked on a port
abbrev pub IsAsked : List Entry → Asked → Type 0
IsAsked tree (OnNode node rights) = IsNode tree node
IsAsked tree (OnPort port right) = IsOne right
IsAsked tree Mounting = Unit {0}
IsAsked tree (Moving request error) = IsMoveRequest tree request

-- All that unfolds when the layers object to a call.
unfoldable pub objecting : Unit {0}
unfolding
    Rattle.ll_reasons.specs.Explanations.objections_to objected Rattle.ll_rights.specs.Rights.only Rattle.ll_rights.specs.NetRights.only
    Rattle.ll_trace.specs.FirstPlaces.first_place Rattle.ll_trace.specs.Operations.paths_of Rattle.ll_explanations.specs.Meanings.by_layer
    Rattle.ll_reasons.specs.Objections.to_request Rattle.ll_semantics.specs.Requests.wanted
objecting = tt

-- All that unfolds when the layers object to what a call wants at a path.
unfoldable pub requesting : Unit {0}
unfolding Rattle.ll_reasons.specs.Objections.to_request Rattle.ll_explanations.specs.Meanings.by_layer objected
requesting = tt
