-- What each layer of a domain objects to in a call: rights that it handles and doesn't grant, by path or port, and rights that a moved object would gain.
-- Source: landlock(7), "Landlock rules"; the kernel's userspace document on Landlock, "Layers of file path access rights" and "Filesystem flags" (LANDLOCK_ACCESS_FS_REFER).
use Rattle.std.specs.Prelude.{ℕ, ◌+◌, Bool, not, ◌&&◌, ◌||◌, List, [], ◌∷◌, ◌++◌, filter, Option, Some, None, if◌then◌else◌}
use Rattle.std.specs.List.{list_any}
use Rattle.ll_rights.specs.declared.kind.Kind.{Kind}
use Rattle.ll_rights.specs.declared.net.Net.{Net}
use Rattle.ll_rights.specs.Rights.{FsRight, refer, is_right, is_file_right}
use Rattle.ll_rights.specs.Rights as files
use Rattle.ll_rights.specs.NetRights as network
use Rattle.ll_lines.specs.Paths.{Path, path_eq}
use Rattle.ll_tree.specs.Trees.{Entry, path_at, kind_at, is_dir}
use Rattle.ll_rules.specs.declared.errno.Errno.{Errno}
use Rattle.ll_rules.specs.declared.errno.Errno.TheVariants.{XDev}
use Rattle.ll_rules.specs.declared.moves.Move.{Move}
use Rattle.ll_rules.specs.declared.moves.Target.{Target}
use Rattle.ll_rules.specs.declared.moves.Target.TheVariants.{New, Over}
use Rattle.ll_rules.specs.declared.moves.How.{How}
use Rattle.ll_rules.specs.declared.moves.How.TheVariants.{Rename, Exchange, Link}
use Rattle.ll_rules.specs.Layers.{handles, granted, granted_on_port}
use Rattle.ll_rules.specs.Moves.{source_of, destination_of, kind_there, asked_of_source, asked_of_destination}
use Rattle.ll_semantics.specs.declared.request.Request.{Request}
use Rattle.ll_semantics.specs.States.{Layer}

-- what a layer objects to
pub data Objection : Type 0 where
  -- rights are asked on a path, handled and not granted there
  missing : List FsRight → Path → Objection
  -- rights are asked on a port, handled and not granted there
  closed : List network.NetRight → ℕ → Objection
  -- an object would have rights in a directory that it goes to, which it doesn't have where it is
  gained : Path → List FsRight → Path → Objection
  -- rights for files are handled, so what is mounted stays as it is
  mounting : Objection
  -- a right was missing on the file when the record at an index of the trace opened it
  kept : FsRight → ℕ → Objection

-- ---- rights, each list in the order of the table of rights

-- the rights that are asked on a path, and that a layer handles and doesn't grant there
abbrev pub missing_rights : Layer → Path → (FsRight → Bool) → List FsRight
missing_rights layer path asked = filter (λ right. asked right && handles layer right && not (granted layer path right)) files.all_rights

-- the rights that are asked on a port, and that a layer handles and doesn't grant there
abbrev pub closed_rights : Layer → ℕ → (network.NetRight → Bool) → List network.NetRight
closed_rights layer port asked = filter (λ right. asked right && network.has layer.handled_network right && not (granted_on_port layer port right)) network.all_rights

-- the rights that an object would gain in a directory: they count for its kind, and a layer handles them, grants them on the directory and doesn't grant them on the object
abbrev pub gained_rights : Layer → Kind → Path → Path → List FsRight
gained_rights layer kind object directory = filter (λ right. granted layer directory right && (handles layer right && (is_dir kind || is_file_right right)) && not (granted layer object right)) files.all_rights

-- a right is one of these
abbrev pub one_of : List FsRight → FsRight → Bool
one_of rights right = list_any (is_right right) rights

-- ---- what one layer objects to

-- nothing, where there are no rights
abbrev pub if_any : {R : Type 0} → List R → Objection → List Objection
if_any [] objection = []
if_any (right ∷ rights) objection = objection ∷ []

unfoldable pub on_path : Path → (FsRight → Bool) → Layer → List Objection
on_path path asked layer = if_any (missing_rights layer path asked) (missing (missing_rights layer path asked) path)

unfoldable pub on_port : ℕ → Net → Layer → List Objection
on_port port wanted layer = if_any (closed_rights layer port (network.has wanted)) (closed (closed_rights layer port (network.has wanted)) port)

unfoldable pub on_mount : Layer → List Objection
on_mount layer = if files.is_empty layer.handled_files then [] else mounting ∷ []

unfoldable pub on_gain : Kind → Path → Path → Layer → List Objection
on_gain kind object directory layer = if_any (gained_rights layer kind object directory) (gained object (gained_rights layer kind object directory) directory)

-- what a move asks of its two directories, on one path together if they are one
unfoldable pub on_directories : List Entry → Move → Layer → List Objection
on_directories tree move layer =
    let moved = kind_at tree move.moved in
    let there = kind_there tree move.target in
    let source = source_of tree move in
    let destination = destination_of tree move.target in
    let leaving = asked_of_source move.how moved there in
    let entering = asked_of_destination moved there in
    if path_eq source destination then on_path source (one_of (leaving ++ entering)) layer
    else on_path source (one_of leaving) layer ++ on_path destination (one_of entering) layer

-- in an exchange the other object goes to the source
unfoldable pub on_other_gain : List Entry → Move → How → Target → Layer → List Objection
on_other_gain tree move Exchange (Over there) layer = on_gain (kind_at tree there) (path_at tree there) (source_of tree move) layer
on_other_gain tree move Exchange (New directory) layer = []
on_other_gain tree move Rename target layer = []
on_other_gain tree move Link target layer = []

-- what a move from one directory to another needs beside: `refer` on both, and that no object gains a right
unfoldable pub on_crossing : List Entry → Move → Layer → List Objection
on_crossing tree move layer =
    on_path (source_of tree move) (one_of (refer ∷ [])) layer
    ++ on_path (destination_of tree move.target) (one_of (refer ∷ [])) layer
    ++ on_gain (kind_at tree move.moved) (path_at tree move.moved) (destination_of tree move.target) layer
    ++ on_other_gain tree move move.how move.target layer

-- ---- what the layers of a domain object to

-- a layer by its number, where it objects to something
abbrev pub of_layer : ℕ → List Objection → List (ℕ × List Objection)
of_layer number [] = []
of_layer number (objection ∷ objections) = (number, objection ∷ objections) ∷ []

-- the layers that object, rising, where the first of these has a number
unfoldable pub objecting_from : (Layer → List Objection) → ℕ → List Layer → List (ℕ × List Objection)
objecting_from objections number [] = []
objecting_from objections number (layer ∷ layers) = of_layer number (objections layer) ++ objecting_from objections (number + 1) layers

-- the layers of a domain that object, rising
abbrev pub objecting : (Layer → List Objection) → List Layer → List (ℕ × List Objection)
objecting objections domain = objecting_from objections 1 domain

-- to a request
unfoldable pub to_request : List Entry → List Layer → Option Request → List (ℕ × List Objection)
to_request tree domain None = []
to_request tree domain (Some request) = objecting (on_path (path_at tree request.node) (files.has request.rights)) domain

-- to a move, by the error that they refuse it with
abbrev pub on_move : List Entry → Move → Errno → Layer → List Objection
on_move tree move XDev layer = on_crossing tree move layer
on_move tree move error layer = on_directories tree move layer

unfoldable pub to_move : List Entry → List Layer → Errno → Option Move → List (ℕ × List Objection)
to_move tree domain error None = []
to_move tree domain error (Some move) = objecting (on_move tree move error) domain
