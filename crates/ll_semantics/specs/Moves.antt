-- Which renames and links the policy is asked about: all but those that the tree itself decides.
-- Source: the kernel's userspace document on Landlock, "Filesystem flags" (LANDLOCK_ACCESS_FS_REFER).
use Rattle.std.specs.Prelude.{List, Bool, not, ◌==◌, if◌then◌else◌, Option, Some, None}
use Rattle.ll_tree.specs.declared.place.NodeId.{NodeId}
use Rattle.ll_tree.specs.declared.place.Place.{Place}
use Rattle.ll_tree.specs.declared.place.Place.TheVariants.{Node, Gap, Nowhere}
use Rattle.ll_lines.specs.Paths.{is_prefix}
use Rattle.ll_tree.specs.Trees.{Entry, path_at, kind_at, is_dir}
use Rattle.ll_rules.specs.declared.moves.Move.{Move}
use Rattle.ll_rules.specs.declared.moves.Target.{Target}
use Rattle.ll_rules.specs.declared.moves.Target.TheVariants.{New, Over}
use Rattle.ll_rules.specs.declared.moves.How.{How}
use Rattle.ll_rules.specs.declared.moves.How.TheVariants.{Rename, Exchange, Link}

-- one node is another, or a directory over it
abbrev pub is_above : List Entry → NodeId → NodeId → Bool
is_above tree a b = is_prefix (path_at tree a) (path_at tree b)

abbrev pub is_root : NodeId → Bool
is_root node = node.0 == 0

-- one of two is a directory and the other isn't
abbrev pub is_mixed : List Entry → NodeId → NodeId → Bool
is_mixed tree a b = if is_dir (kind_at tree a) then not (is_dir (kind_at tree b)) else is_dir (kind_at tree b)

abbrev pub move : NodeId → Target → How → Option Move
move moved target how = Some (record { moved = moved; target = target; how = how })

-- a rename into a gap: nothing goes under itself
unfoldable pub rename_into : List Entry → NodeId → NodeId → Bool → Option Move
rename_into tree from directory exchange = if exchange then None else (if is_above tree from directory then None else move from (New directory) Rename)

-- A rename onto an object, or an exchange with it: not onto itself or the root, not under itself, not onto what
-- it is in, and without exchange no directory onto a file or a file onto a directory.
unfoldable pub rename_onto : List Entry → NodeId → NodeId → Bool → Option Move
rename_onto tree from to exchange =
    if is_root to then None
    else if is_above tree from to then None
    else if is_above tree to from then None
    else if exchange then move from (Over to) Exchange
    else if is_mixed tree from to then None
    else move from (Over to) Rename

unfoldable pub rename_to : List Entry → NodeId → Place → Bool → Option Move
rename_to tree from (Gap directory) exchange = rename_into tree from directory exchange
rename_to tree from (Node to) exchange = rename_onto tree from to exchange
rename_to tree from Nowhere exchange = None

-- a rename moves an object that is there and isn't the root
unfoldable pub rename_move : List Entry → Place → Place → Bool → Option Move
rename_move tree (Node from) to exchange = if is_root from then None else rename_to tree from to exchange
rename_move tree (Gap directory) to exchange = None
rename_move tree Nowhere to exchange = None

-- a link gives an object that is there and isn't a directory one more name, in a gap
unfoldable pub link_to : List Entry → NodeId → Place → Option Move
link_to tree from (Gap directory) = if is_dir (kind_at tree from) then None else move from (New directory) Link
link_to tree from (Node to) = None
link_to tree from Nowhere = None

unfoldable pub link_move : List Entry → Place → Place → Option Move
link_move tree (Node from) to = if is_root from then None else link_to tree from to
link_move tree (Gap directory) to = None
link_move tree Nowhere to = None
