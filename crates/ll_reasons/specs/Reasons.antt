-- Why the policy isn't asked about a call: what of the tree or of the process's own tables decides it.
-- Source: docs/SEMANTICS.md, "Three answers", "What each call asks" and "Moving and linking"; path_resolution(7).
use Rattle.std.specs.Prelude.{ℕ, zero, suc, Bool, List, [], Option, Some, None, option_map, length, ◌==◌, is_some, if◌then◌else◌}
use Rattle.ll_rights.specs.declared.kind.Kind.{Kind}
use Rattle.ll_tree.specs.declared.place.NodeId.{NodeId}
use Rattle.ll_tree.specs.declared.place.Place.{Place}
use Rattle.ll_tree.specs.declared.place.Place.TheVariants.{Node, Gap, Nowhere}
use Rattle.ll_lines.specs.Paths.{Path, front, path_of}
use Rattle.ll_tree.specs.Trees.{Entry, kind_at, is_dir, node_at, place}
use Rattle.ll_trace.specs.declared.op.Op.{Op}
use Rattle.ll_trace.specs.declared.op.Op.TheVariants as calls
use Rattle.ll_semantics.specs.declared.request.Wanted.{Wanted}
use Rattle.ll_semantics.specs.declared.request.Wanted.TheVariants.{Make, Unlink, Rmdir}
use Rattle.ll_semantics.specs.Requests.{wanted}
use Rattle.ll_semantics.specs.Moves.{is_above, is_root}
use Rattle.ll_reasons.specs.Origins.{Origins}

pub data Reason : Type 0 where
  -- a path is that of no object of the tree
  absent : Path → Reason
  -- an object on the way to a path, or where a directory should be, is none
  no_directory : Path → Reason
  -- a path is that of an object of the tree, where a new one should be
  present : Path → Reason
  -- an object is of a kind that the call doesn't take
  of_kind : Path → Kind → Reason
  -- the root is neither moved nor removed nor replaced
  root : Reason
  -- a move of an object onto itself
  unmoved : Path → Reason
  -- a move of a directory under itself
  beneath_itself : Path → Path → Reason
  -- a move onto a directory that the object is in
  over_itself : Path → Path → Reason
  -- a move of a directory onto what is none, or the reverse
  mixed : Path → Path → Reason
  -- a descriptor's number is open already, or isn't open
  open_already : ℕ → Reason
  unopened : ℕ → Reason
  -- a descriptor that isn't that of a regular file open for writing
  not_for_writing : ℕ → Reason
  -- a ruleset's number is held already, or isn't held
  held_already : ℕ → Reason
  unheld : ℕ → Reason
  -- the program leaves the call out: the ABI supports none of the rights that the rule would grant
  unsupported : Reason
  -- the program leaves the call out: the ABI supports none of the rights that the ruleset would handle
  unenforced : Reason

-- ---- the tree

-- the path that a text spells, and the root for a text that is none
abbrev pub path_or_root : Option Path → Path
path_or_root None = []
path_or_root (Some path) = path

abbrev pub spelt : List ℕ → Path
spelt text = path_or_root (path_of text)

-- what is above a path is there: then the path isn't there, or what is above it is no directory
abbrev pub beside : List Entry → Path → NodeId → Reason
beside tree path above = if is_dir (kind_at tree above) then absent path else no_directory (front path)

abbrev pub or_above : List Entry → Path → Option NodeId → Reason → Reason
or_above tree path None above = above
or_above tree path (Some node) above = beside tree path node

-- where the tree ends on the way to a path that isn't there: going up, at the first path whose directory is there; the
-- number is that of the names to go
unfoldable pub ends_at : List Entry → ℕ → Path → Reason
ends_at tree zero path = absent path
ends_at tree (suc names) path = or_above tree path (node_at tree (front path)) (ends_at tree names (front path))

abbrev pub nowhere : List Entry → Path → Reason
nowhere tree path = ends_at tree (length path) path

-- a place where an object of some kind should be
unfoldable pub no_object : List Entry → Path → Place → Reason
no_object tree path (Node node) = of_kind path (kind_at tree node)
no_object tree path (Gap directory) = absent path
no_object tree path Nowhere = nowhere tree path

-- an object that isn't what a call wants
unfoldable pub unsuited : List Entry → Path → NodeId → Wanted → Reason
unsuited tree path node (Make rights) = present path
unsuited tree path node Unlink = if is_root node then root else of_kind path (kind_at tree node)
unsuited tree path node Rmdir = if is_root node then root else of_kind path (kind_at tree node)
unsuited tree path node wanted = of_kind path (kind_at tree node)

-- a place that isn't what a call wants there
unfoldable pub unmet : List Entry → Path → Place → Wanted → Reason
unmet tree path (Node node) wanted = unsuited tree path node wanted
unmet tree path (Gap directory) wanted = absent path
unmet tree path Nowhere wanted = nowhere tree path

-- ---- moves

unfoldable pub onto : List Entry → Path → NodeId → Path → NodeId → Reason
onto tree from moved to there =
    if is_root there then root
    else if moved.0 == there.0 then unmoved from
    else if is_above tree moved there then beneath_itself from to
    else if is_above tree there moved then over_itself from to
    else mixed from to

-- a rename or an exchange of an object
unfoldable pub moved_to : List Entry → Path → NodeId → Path → Place → Bool → Reason
moved_to tree from moved to (Node there) exchange = onto tree from moved to there
moved_to tree from moved to (Gap directory) exchange = if exchange then absent to else beneath_itself from to
moved_to tree from moved to Nowhere exchange = nowhere tree to

unfoldable pub unrenamed : List Entry → Path → Place → Path → Place → Bool → Reason
unrenamed tree from (Node moved) to there exchange = if is_root moved then root else moved_to tree from moved to there exchange
unrenamed tree from (Gap directory) to there exchange = absent from
unrenamed tree from Nowhere to there exchange = nowhere tree from

-- a link of an object
unfoldable pub linked_to : List Entry → Path → NodeId → Path → Place → Reason
linked_to tree from moved to (Node there) = present to
linked_to tree from moved to (Gap directory) = of_kind from (kind_at tree moved)
linked_to tree from moved to Nowhere = nowhere tree to

unfoldable pub unlinked : List Entry → Path → Place → Path → Place → Reason
unlinked tree from (Node moved) to there = if is_root moved then root else linked_to tree from moved to there
unlinked tree from (Gap directory) to there = absent from
unlinked tree from Nowhere to there = nowhere tree from

-- ---- every call that can be moot

unfoldable pub reason : List Entry → Origins → Op → Option Reason
reason tree o (calls.Create rs fs net) = Some (held_already rs)
reason tree o (calls.AddPath rs path fs) = Some (no_object tree (spelt path) (place tree path))
reason tree o (calls.CloseRs rs) = Some (unheld rs)
reason tree o (calls.Restrict rs) = Some unenforced
reason tree o (calls.OpenFile path fd mode create trunc) = Some (if is_some (o.openings fd) then open_already fd else no_object tree (spelt path) (place tree path))
reason tree o (calls.Adopt fd kind) = Some (open_already fd)
reason tree o (calls.Dup fd to) = Some (unopened fd)
reason tree o (calls.Close fd) = Some (unopened fd)
reason tree o (calls.Ftruncate fd) = Some (if is_some (o.openings fd) then not_for_writing fd else unopened fd)
reason tree o (calls.Ioctl fd driver) = Some (unopened fd)
reason tree o (calls.Rename from to exchange) = Some (unrenamed tree (spelt from) (place tree from) (spelt to) (place tree to) exchange)
reason tree o (calls.Link from to) = Some (unlinked tree (spelt from) (place tree from) (spelt to) (place tree to))
reason tree o (calls.CreateEmpty rs) = Some (held_already rs)
reason tree o (calls.LeaveOutPath path) = Some unsupported
reason tree o calls.LeaveOutPort = Some unsupported
reason tree o op = option_map (λ want. unmet tree (spelt want.0) (place tree want.0) want.1) (wanted op)
