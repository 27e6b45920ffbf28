-- What is said of a layer in a move.
use Rattle.std.proofs.Common.{◌≡◌, ◌∙◌, Bool, true, false, eqb, List, [], ◌∷◌, ◌++◌, refl, sym, ap, inl, inr, ◌⊎◌}
use Rattle.std.specs.Prelude.{not, ◌&&◌, ◌||◌}
use Rattle.std.proofs.lemmas.List.Elements.{filter_agree}
use Rattle.std.proofs.lemmas.List.Folds.{list_any-append}
use Rattle.ll_rights.specs.declared.fs.Fs.{Fs}
use Rattle.ll_rights.specs.Rights as files
use Rattle.ll_rights.proofs.Sets.{fs_has-only, fs_has-united}
use Rattle.ll_tree.specs.declared.place.NodeId.{NodeId}
use Rattle.ll_lines.specs.Paths.{Path, path_eq}
use Rattle.ll_tree.specs.Trees.{Entry, kind_at, path_at}
use Rattle.ll_tree.proofs.Positions.{path_eq-nodes}
use Rattle.ll_rules.specs.declared.moves.How.{How}
use Rattle.ll_rules.specs.declared.moves.How.TheVariants.{Rename, Exchange, Link}
use Rattle.ll_rules.specs.declared.moves.Move.{Move}
use Rattle.ll_rules.specs.declared.moves.Target.{Target}
use Rattle.ll_rules.specs.declared.moves.Target.TheVariants.{New, Over}
use Rattle.ll_rules.specs.Layers.{granted, handles}
use Rattle.ll_rules.specs.Moves.{asked_of_destination, asked_of_source, destination_of, kind_there, source_of}
use Rattle.ll_rules.proofs.Booleans.{or_false}
use Rattle.ll_semantics.specs.States.{Layer}
use Rattle.ll_explanations.specs.Asking.{IsMoveRequest}
use Rattle.ll_explanations.specs.declared.moved.MoveRequest.{MoveRequest}
use Rattle.ll_reasons.specs.Objections.{Objection, if_any, missing, on_crossing, on_directories, on_gain, on_other_gain, on_path, one_of}

refer_asked : (right : files.FsRight) → files.has (files.only files.refer) right ≡ one_of (files.refer ∷ []) right
refer_asked right = fs_has-only right files.refer ∙ sym (or_false (files.is_right right files.refer))

module _ (layer : Layer) where
  -- tests that agree name the same rights
  on_path-agree : (path : Path) (asked other : files.FsRight → Bool) → ((right : files.FsRight) → asked right ≡ other right)
      → on_path path asked layer ≡ on_path path other layer
  unfolding on_path
  on_path-agree path asked other same =
      ap (λ rights. if_any rights (missing rights path))
      (filter_agree (λ right. asked right && handles layer right && not (granted layer path right))
      (λ right. other right && handles layer right && not (granted layer path right))
      (λ right. ap (λ b. b && handles layer right && not (granted layer path right)) (same right)) files.all_rights)

  on_refer : (here path : Path) (said : List Objection) → here ≡ path → said ≡ on_path here (files.has (files.only files.refer)) layer
      → said ≡ on_path path (one_of (files.refer ∷ [])) layer
  on_refer here path said hit is = is ∙ ap (λ p. on_path p (files.has (files.only files.refer)) layer)
      hit ∙ on_path-agree path (files.has (files.only files.refer)) (one_of (files.refer ∷ [])) refer_asked

module _ (tree : List Entry) (move : Move) where
  abbrev leave : List files.FsRight
  leave = asked_of_source move.how (kind_at tree move.moved) (kind_there tree move.target)

  abbrev enter : List files.FsRight
  enter = asked_of_destination (kind_at tree move.moved) (kind_there tree move.target)

module _ (layer : Layer) (tree : List Entry) (move : Move) (here there : NodeId) (from to : Fs) (hit : path_at tree here ≡ source_of tree move)
    (leaves : (right : files.FsRight) → files.has from right ≡ one_of (leave tree move) right) (enters : (right : files.FsRight)
    → files.has to right ≡ one_of (enter tree move) right) where
  both : (right : files.FsRight) → files.has (files.united from to) right ≡ one_of (leave tree move ++ enter tree move) right
  both right =
      fs_has-united from to right ∙ ap (λ b. b || files.has to right) (leaves right) ∙ ap (λ b. one_of (leave tree move) right || b) (enters right)
      ∙ sym (list_any-append (files.is_right right) (leave tree move) (enter tree move))

  pub within_one : (said : List Objection) → said ≡ on_path (path_at tree here) (files.has (files.united from to)) layer →
      path_eq (source_of tree move) (destination_of tree move.target) ≡ true → said ≡ on_directories tree move layer
  unfolding on_directories
  within_one said is one =
      is ∙ ap (λ p. on_path p (files.has (files.united from to)) layer) hit
      ∙ on_path-agree layer (source_of tree move) (files.has (files.united from to)) (one_of (leave tree move ++ enter tree move)) both ∙ rw one refl

  pub between : (x y : List Objection) → path_at tree there ≡ destination_of tree move.target →
      x ≡ on_path (path_at tree here) (files.has from) layer → y ≡ on_path (path_at tree there) (files.has to) layer →
      path_eq (source_of tree move) (destination_of tree move.target) ≡ false → x ++ y ≡ on_directories tree move layer
  unfolding on_directories
  between x y goes is also two =
      ap (λ os. os ++ y) (is ∙ ap (λ p. on_path p (files.has from) layer) hit
      ∙ on_path-agree layer (source_of tree move) (files.has from) (one_of (leave tree move)) leaves)
      ∙ ap (λ os. on_path (source_of tree move) (one_of (leave tree move)) layer ++ os)
      (also ∙ ap (λ p. on_path p (files.has to) layer) goes
      ∙ on_path-agree layer (destination_of tree move.target) (files.has to) (one_of (enter tree move)) enters)
      ∙ rw two refl

module _ (layer : Layer) (tree : List Entry) (move : Move) where
  pub crossing : (x y g o : List Objection) (here there : Path) → here ≡ source_of tree move → there ≡ destination_of tree move.target →
      x ≡ on_path here (files.has (files.only files.refer)) layer → y ≡ on_path there (files.has (files.only files.refer)) layer →
      g ≡ on_gain (kind_at tree move.moved) (path_at tree move.moved) there layer → o ≡ on_other_gain tree move move.how move.target layer →
      x ++ y ++ g ++ o ≡ on_crossing tree move layer
  unfolding on_crossing
  crossing x y g o here there hit goes is also gains other =
      ap (λ os. os ++ y ++ g ++ o) (on_refer layer here (source_of tree move) x hit is)
      ∙ ap (λ os. on_path (source_of tree move) (one_of (files.refer ∷ [])) layer ++ os ++ g ++ o)
      (on_refer layer there (destination_of tree move.target) y goes also)
      ∙ ap (λ os. on_path (source_of tree move) (one_of (files.refer ∷ [])) layer ++ on_path (destination_of tree move.target) (one_of (files.refer ∷ []))
      layer ++ os ++ o)
      (gains ∙ ap (λ p. on_gain (kind_at tree move.moved) (path_at tree move.moved) p layer) goes)
      ∙ ap (λ os. on_path (source_of tree move) (one_of (files.refer ∷ [])) layer ++ on_path (destination_of tree move.target) (one_of (files.refer ∷ [])) layer
      ++ on_gain (kind_at tree move.moved) (path_at tree move.moved) (destination_of tree move.target) layer ++ os) other

-- the directories of a move are told apart or not as their nodes
pub directories_eq : (tree : List Entry) (request : MoveRequest) {eq same : Bool} → IsMoveRequest tree request
    → eq ≡ eqb request.destination.0 request.source.0 → eq ≡ same
    → path_eq (source_of tree request.attempt) (destination_of tree request.attempt.target) ≡ same
directories_eq tree request is by_nodes eq =
    rw (← is.from, ← is.into) (sym (path_eq-nodes tree request.source request.destination is.is_tree is.source is.destination) ∙ sym by_nodes ∙ eq)

-- ---- what the other object would gain

module _ (tree : List Entry) (move : Move) (layer : Layer) (said : List Objection) where
  pub other_over : (how : How) (target : Target) (there : NodeId) (here : Path) → how ≡ Exchange → target ≡ Over there → here ≡ source_of tree move →
      said ≡ on_gain (kind_at tree there) (path_at tree there) here layer → said ≡ on_other_gain tree move how target layer
  unfolding on_other_gain
  other_over how target there here is goes hit gains = rw (is, goes) (gains ∙ ap (λ p. on_gain (kind_at tree there) (path_at tree there) p layer) hit)

  pub other_new : (how : How) (target : Target) (directory : NodeId) → how ≡ Exchange → target ≡ New directory → said ≡ []
      → said ≡ on_other_gain tree move how target layer
  unfolding on_other_gain
  other_new how target directory is goes none = rw (is, goes) none

  pub other_none : (how : How) (target : Target) → (how ≡ Rename) ⊎ (how ≡ Link) → said ≡ [] → said ≡ on_other_gain tree move how target layer
  unfolding on_other_gain
  other_none how target (inl is) none = rw is none
  other_none how target (inr is) none = rw is none
