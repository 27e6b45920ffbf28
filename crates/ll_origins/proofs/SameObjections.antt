-- Layers that are one by one the same object to the same.
use Rattle.std.proofs.Common.{◌≡◌, ℕ, ◌+◌, Bool, not, ◌&&◌, ◌||◌, List, [], ◌∷◌, ◌++◌, Option, Some, None, refl, ap}
use Rattle.std.specs.Prelude.{if◌then◌else◌}
use Rattle.std.specs.List.{AllZip}
use Rattle.std.proofs.lemmas.List.Elements.{filter_agree}
use Rattle.ll_rights.specs.declared.fs.Fs.{Fs}
use Rattle.ll_rights.specs.declared.kind.Kind.{Kind}
use Rattle.ll_rights.specs.declared.net.Net.{Net}
use Rattle.ll_rights.specs.Rights.{FsRight, refer, is_file_right}
use Rattle.ll_rights.specs.Rights as files
use Rattle.ll_rights.specs.NetRights as network
use Rattle.ll_lines.specs.Paths.{Path}
use Rattle.ll_tree.specs.Trees.{Entry, path_at, kind_at, is_dir}
use Rattle.ll_rules.specs.declared.errno.Errno.{Errno}
use Rattle.ll_rules.specs.declared.errno.Errno.TheVariants.{XDev}
use Rattle.ll_rules.specs.declared.moves.Move.{Move}
use Rattle.ll_rules.specs.declared.moves.Target.{Target}
use Rattle.ll_rules.specs.declared.moves.Target.TheVariants.{New, Over}
use Rattle.ll_rules.specs.declared.moves.How.{How}
use Rattle.ll_rules.specs.declared.moves.How.TheVariants.{Rename, Exchange, Link}
use Rattle.ll_rules.specs.Layers.{handles, granted, granted_on_port}
use Rattle.ll_rules.specs.KeptLayers.{SameRules}
use Rattle.ll_rules.specs.Moves.{source_of, destination_of, kind_there, asked_of_source, asked_of_destination}
use Rattle.ll_rules.proofs.SameLayers.{granted-same, handles-same}
use Rattle.ll_trace.specs.declared.op.Op.{Op}
use Rattle.ll_trace.specs.declared.op.Op.TheVariants as calls
use Rattle.ll_semantics.specs.declared.request.Request.{Request}
use Rattle.ll_semantics.specs.Requests.{request, wanted}
use Rattle.ll_semantics.specs.States.{Layer}
use Rattle.ll_reasons.specs.Origins.{Origins}
use Rattle.ll_reasons.specs.Objections.{Objection, missing, closed, gained, mounting, missing_rights, closed_rights, gained_rights, one_of, if_any, on_path}
use Rattle.ll_reasons.specs.Objections.{on_port, on_mount, on_gain, on_directories, on_other_gain, on_crossing, objecting_from, to_request, on_move, to_move}
use Rattle.ll_reasons.specs.Explanations.{objections_to}

-- ---- one layer

module _ (a b : Layer) (same : SameRules a b) where
  missing-same : (path : Path) (asked : FsRight → Bool) → missing_rights a path asked ≡ missing_rights b path asked
  missing-same path asked = filter_agree (λ right. asked right && handles a right && not (granted a path right))
      (λ right. asked right && handles b right && not (granted b path right))
      (λ right. rw (handles-same a b same right, granted-same a b same path right) refl) files.all_rights

  closed-same : (port : ℕ) (asked : network.NetRight → Bool) → closed_rights a port asked ≡ closed_rights b port asked
  closed-same port asked = filter_agree (λ right. asked right && network.has a.handled_network right && not (granted_on_port a port right))
      (λ right. asked right && network.has b.handled_network right && not (granted_on_port b port right))
      (λ right. rw (same.same_on_port port right, same.same_network) refl) network.all_rights

  gained-same : (kind : Kind) (object directory : Path) → gained_rights a kind object directory ≡ gained_rights b kind object directory
  gained-same kind object directory =
      filter_agree (λ right. granted a directory right && (handles a right && (is_dir kind || is_file_right right)) && not (granted a object right))
      (λ right. granted b directory right && (handles b right && (is_dir kind || is_file_right right)) && not (granted b object right))
      (λ right. rw (granted-same a b same directory right, handles-same a b same right, granted-same a b same object right) refl) files.all_rights

  on_path-same : (path : Path) (asked : FsRight → Bool) → on_path path asked a ≡ on_path path asked b
  unfolding on_path
  on_path-same path asked = ap (λ (rights : List FsRight). if_any rights (missing rights path)) (missing-same path asked)

  on_port-same : (port : ℕ) (wanted : Net) → on_port port wanted a ≡ on_port port wanted b
  unfolding on_port
  on_port-same port wanted = ap (λ (rights : List network.NetRight). if_any rights (closed rights port)) (closed-same port (network.has wanted))

  on_mount-same : on_mount a ≡ on_mount b
  unfolding on_mount
  on_mount-same = ap (λ (set : Fs). if files.is_empty set then [] else mounting ∷ []) same.same_files

  on_gain-same : (kind : Kind) (object directory : Path) → on_gain kind object directory a ≡ on_gain kind object directory b
  unfolding on_gain
  on_gain-same kind object directory = ap (λ (rights : List FsRight). if_any rights (gained object rights directory)) (gained-same kind object directory)

  on_directories-same : (tree : List Entry) (move : Move) → on_directories tree move a ≡ on_directories tree move b
  unfolding on_directories
  on_directories-same tree move =
      let moved = kind_at tree move.moved in
      let there = kind_there tree move.target in
      let leaving : List FsRight = asked_of_source move.how moved there in
      let entering : List FsRight = asked_of_destination moved there in
      rw (on_path-same (source_of tree move) (one_of (leaving ++ entering)), on_path-same (source_of tree move) (one_of leaving))
      (rw (on_path-same (destination_of tree move.target) (one_of entering)) refl)

  on_other_gain-same : (tree : List Entry) (move : Move) (how : How) (target : Target)
      → on_other_gain tree move how target a ≡ on_other_gain tree move how target b
  unfolding on_other_gain
  on_other_gain-same tree move Exchange (Over there) = on_gain-same (kind_at tree there) (path_at tree there) (source_of tree move)
  on_other_gain-same tree move Exchange (New directory) = refl
  on_other_gain-same tree move Rename target = refl
  on_other_gain-same tree move Link target = refl

  on_crossing-same : (tree : List Entry) (move : Move) → on_crossing tree move a ≡ on_crossing tree move b
  unfolding on_crossing
  on_crossing-same tree move =
      let gained = on_gain-same (kind_at tree move.moved) (path_at tree move.moved) (destination_of tree move.target) in
      rw (on_path-same (source_of tree move) (one_of (refer ∷ [])), on_path-same (destination_of tree move.target) (one_of (refer ∷ [])))
      (rw (gained, on_other_gain-same tree move move.how move.target) refl)

  on_move-same : (tree : List Entry) (move : Move) (error : Errno) → on_move tree move error a ≡ on_move tree move error b
  on_move-same tree move XDev = on_crossing-same tree move
  on_move-same tree move error = on_directories-same tree move

-- ---- domains, layer by layer

objecting-same : (objections : Layer → List Objection) → ((a b : Layer) → SameRules a b → objections a ≡ objections b) → (number : ℕ) (xs ys : List Layer)
    → AllZip SameRules xs ys → objecting_from objections number xs ≡ objecting_from objections number ys
unfolding objecting_from
objecting-same objections agree number [] [] both = refl
objecting-same objections agree number [] (y ∷ ys) both = absurd both
objecting-same objections agree number (x ∷ xs) [] both = absurd both
objecting-same objections agree number (x ∷ xs) (y ∷ ys) both = rw (agree x y both.0, objecting-same objections agree (number + 1) xs ys both.1) refl

module _ (xs ys : List Layer) (both : AllZip SameRules xs ys) where
  request-same : (tree : List Entry) (request : Option Request) → to_request tree xs request ≡ to_request tree ys request
  unfolding to_request
  request-same tree None = refl
  request-same tree (Some request) = objecting-same (on_path (path_at tree request.node) (files.has request.rights))
      (λ a b same. on_path-same a b same (path_at tree request.node) (files.has request.rights)) 1 xs ys both

  move-same : (tree : List Entry) (error : Errno) (move : Option Move) → to_move tree xs error move ≡ to_move tree ys error move
  unfolding to_move
  move-same tree error None = refl
  move-same tree error (Some move) = objecting-same (on_move tree move error) (λ a b same. on_move-same a b same tree move error) 1 xs ys both

  port-same : (port : ℕ) (wanted : Net) → objecting_from (on_port port wanted) 1 xs ≡ objecting_from (on_port port wanted) 1 ys
  port-same port wanted = objecting-same (on_port port wanted) (λ a b same. on_port-same a b same port wanted) 1 xs ys both

-- ---- every call

pub same_layers_object_to_the_same : (tree : List Entry) (xs ys : List Layer) → AllZip SameRules xs ys
    → (o : Origins) (op : Op) (error : Errno) (numbers : List ℕ) → objections_to tree xs o op error numbers ≡ objections_to tree ys o op error numbers
unfolding objections_to
same_layers_object_to_the_same tree xs ys both o (calls.Ftruncate fd) error numbers = refl
same_layers_object_to_the_same tree xs ys both o (calls.Ioctl fd driver) error numbers = refl
same_layers_object_to_the_same tree xs ys both o (calls.Rename from to exchange) error numbers = move-same xs ys both tree error _
same_layers_object_to_the_same tree xs ys both o (calls.Link from to) error numbers = move-same xs ys both tree error _
same_layers_object_to_the_same tree xs ys both o calls.Mount error numbers = objecting-same on_mount (λ a b same. on_mount-same a b same) 1 xs ys both
same_layers_object_to_the_same tree xs ys both o (calls.Bind port) error numbers = port-same xs ys both port (network.only network.bind_tcp)
same_layers_object_to_the_same tree xs ys both o (calls.Connect port) error numbers = port-same xs ys both port (network.only network.connect_tcp)
same_layers_object_to_the_same tree xs ys both o op error numbers = request-same xs ys both tree (request tree (wanted op))
