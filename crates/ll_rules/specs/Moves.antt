-- Moves: renames, exchanges and links, what they ask of the two directories, and which layers refuse them.
-- Source: landlock(7), "Filesystem actions", the right to move files between directories; docs/DECISIONS.md says which error comes first and what counts as gaining a right.
use Rattle.std.specs.Prelude.{ℕ, Bool, false, ◌&&◌, ◌||◌, List, [], ◌∷◌, Option, Some, None, if◌then◌else◌}
use Rattle.std.specs.List.{list_any}
use Rattle.ll_rights.specs.declared.kind.Kind.{Kind}
use Rattle.ll_rights.specs.Rights.{FsRight, refer, is_right, is_file_right, is_lacking}
use Rattle.ll_rights.specs.Kinds.{make_right_of, remove_right_of}
use Rattle.ll_lines.specs.Paths.{Path, front, path_eq}
use Rattle.ll_tree.specs.Trees.{Entry, path_at, kind_at, is_dir}
use Rattle.ll_rules.specs.declared.errno.Errno.{Errno}
use Rattle.ll_rules.specs.declared.errno.Errno.TheVariants.{Acces, XDev}
use Rattle.ll_rules.specs.declared.moves.Move.{Move}
use Rattle.ll_rules.specs.declared.moves.Target.{Target}
use Rattle.ll_rules.specs.declared.moves.Target.TheVariants.{New, Over}
use Rattle.ll_rules.specs.declared.moves.How.{How}
use Rattle.ll_rules.specs.declared.moves.How.TheVariants.{Rename, Exchange, Link}
use Rattle.ll_rules.specs.declared.moves.Verdict.{Verdict}
use Rattle.ll_rules.specs.declared.moves.Verdict.TheVariants.{Passed, Refused}
use Rattle.ll_rules.specs.Layers.{RulesOn, handles, granted}
use Rattle.ll_rules.specs.Checks.{numbers_where}

-- ---- the two directories

-- the directory that the moved object is in
abbrev pub source_of : List Entry → Move → Path
source_of tree move = front (path_at tree move.moved)

-- the directory that it comes to
abbrev pub destination_of : List Entry → Target → Path
destination_of tree (New directory) = path_at tree directory
destination_of tree (Over there) = front (path_at tree there)

-- the kind of the object that is there already
abbrev pub kind_there : List Entry → Target → Option Kind
kind_there tree (New directory) = None
kind_there tree (Over there) = Some (kind_at tree there)

-- ---- what is asked on them

-- a rename takes the object out of its directory, and an exchange puts another in its place
abbrev pub asked_of_source : How → Kind → Option Kind → List FsRight
asked_of_source Rename moved there = remove_right_of moved ∷ []
asked_of_source Exchange moved None = remove_right_of moved ∷ []
asked_of_source Exchange moved (Some there) = remove_right_of moved ∷ make_right_of there ∷ []
asked_of_source Link moved there = []

-- the object is made anew, and what is there already is taken out
abbrev pub asked_of_destination : Kind → Option Kind → List FsRight
asked_of_destination moved None = make_right_of moved ∷ []
asked_of_destination moved (Some there) = make_right_of moved ∷ remove_right_of there ∷ []

-- whether a layer handles one of some rights and doesn't grant it on a path
abbrev pub lacks_one_of : RulesOn Path → Path → List FsRight → Bool
lacks_one_of layer path asked = is_lacking (λ right. list_any (is_right right) asked) (handles layer) (granted layer path)

-- whether a layer denies what a move asks of the directories
abbrev pub denies : List Entry → Move → RulesOn Path → Bool
denies tree move layer =
    let moved = kind_at tree move.moved in
    let there = kind_there tree move.target in
    lacks_one_of layer (source_of tree move) (asked_of_source move.how moved there) || lacks_one_of layer (destination_of tree move.target) (asked_of_destination moved there)

-- ---- moves from one directory to another

-- Whether an object gains a right by going to a directory: one that the layer handles and that counts for the
-- object is granted there and not on the object where it is.
abbrev pub gains : RulesOn Path → Kind → Path → Path → Bool
gains layer kind object directory = is_lacking (granted layer directory) (λ right. handles layer right && (is_dir kind || is_file_right right)) (granted layer object)

-- in an exchange the other object goes to the source
abbrev pub other_gains : List Entry → Move → RulesOn Path → How → Target → Bool
other_gains tree move layer Exchange (Over there) = gains layer (kind_at tree there) (path_at tree there) (source_of tree move)
other_gains tree move layer Exchange (New directory) = false
other_gains tree move layer Rename target = false
other_gains tree move layer Link target = false

-- whether a layer keeps a move from leaving the directory
abbrev pub holds_back : List Entry → Move → RulesOn Path → Bool
holds_back tree move layer =
    (lacks_one_of layer (source_of tree move) (refer ∷ []) || lacks_one_of layer (destination_of tree move.target) (refer ∷ []))
    || (gains layer (kind_at tree move.moved) (path_at tree move.moved) (destination_of tree move.target) || other_gains tree move layer move.how move.target)

-- ---- the answer

-- refused where some layers refuse, else as what comes next says
abbrev pub refused_or : Errno → List ℕ → Verdict → Verdict
refused_or error [] next = next
refused_or error (layer ∷ layers) next = Refused error (layer ∷ layers)

-- what a domain answers a move
unfoldable pub move_verdict : List Entry → List (RulesOn Path) → Move → Verdict
move_verdict tree domain move =
    refused_or Acces (numbers_where (denies tree move) domain)
    (if path_eq (source_of tree move) (destination_of tree move.target) then Passed else refused_or XDev (numbers_where (holds_back tree move) domain) Passed)
