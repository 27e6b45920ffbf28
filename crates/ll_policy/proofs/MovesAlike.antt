-- Moves that are alike have one verdict.
use Rattle.std.proofs.Common.{◌≡◌, ℕ, true, false, ◌&&◌, ◌||◌, not, List, [], ◌∷◌, refl, ap, ◌∙◌}
use Rattle.std.specs.Prelude.{All, Option}
use Rattle.std.specs.List.{list_any}
use Rattle.std.proofs.lemmas.Option.{same_Some}
use Rattle.ll_rights.specs.declared.kind.Kind.{Kind}
use Rattle.ll_rights.specs.Rights.{FsRight, refer, is_right, is_file_right}
use Rattle.ll_lines.specs.Paths.{Path}
use Rattle.ll_tree.specs.Trees.{Entry, path_at, kind_at, is_dir}
use Rattle.ll_rules.specs.declared.moves.Move.{Move}
use Rattle.ll_rules.specs.declared.moves.How.{How}
use Rattle.ll_rules.specs.declared.moves.How.TheVariants.{Rename, Exchange, Link}
use Rattle.ll_rules.specs.declared.moves.Target.{Target}
use Rattle.ll_rules.specs.declared.moves.Target.TheVariants.{New, Over}
use Rattle.ll_rules.specs.declared.errno.Errno.TheVariants.{Acces, XDev}
use Rattle.ll_rules.specs.declared.moves.Verdict.TheVariants.{Passed}
use Rattle.ll_rules.specs.Layers.{RulesOn, handles, granted}
use Rattle.ll_rules.specs.Checks.{numbers_from}
use Rattle.ll_rules.specs.Moves.{lacks_one_of, gains, other_gains, denies, holds_back, source_of, destination_of, kind_there, asked_of_source}
use Rattle.ll_rules.specs.Moves.{asked_of_destination, refused_or, move_verdict}
use Rattle.ll_rules.proofs.AskedRights.{some_agree}
use Rattle.ll_policy.specs.Verdicts.{SameAbove, path_there, stays, AreAlike, within_one_directory}
use Rattle.ll_policy.proofs.RuledAlike.{granted-alike, is_lacking-alike, numbers-within}

lacks_one_of-alike : (p q : Path) (layer : RulesOn Path) → SameAbove p q layer → (asked again : List FsRight) → asked ≡ again
    → lacks_one_of layer p asked ≡ lacks_one_of layer q again
lacks_one_of-alike p q layer same asked again is =
    is_lacking-alike (λ right. list_any (is_right right) asked) (handles layer) (granted layer p) (granted layer q) (granted-alike p q layer same)
    ∙ ap (λ (rights : List FsRight). lacks_one_of layer q rights) is

gains-alike : (layer : RulesOn Path) (kind : Kind) (p q r s : Path) → SameAbove p q layer → SameAbove r s layer → gains layer kind p r ≡ gains layer kind q s
gains-alike layer kind p q r s object directory =
    some_agree (λ right. granted layer r right && (handles layer right && (is_dir kind || is_file_right right)) && not (granted layer p right))
    (λ right. granted layer s right && (handles layer right && (is_dir kind || is_file_right right)) && not (granted layer q right))
    (λ right. rw (granted-alike r s layer directory right, granted-alike p q layer object right) refl)

-- in an exchange the other object goes to the source
other_gains-alike : (tree other_tree : List Entry) (move other : Move) (layer : RulesOn Path)
    → SameAbove (source_of tree move) (source_of other_tree other) layer
    → (how : How) (a b : Target) → kind_there tree a ≡ kind_there other_tree b → SameAbove (path_there tree a) (path_there other_tree b) layer
    → other_gains tree move layer how a ≡ other_gains other_tree other layer how b
other_gains-alike tree other_tree move other layer source Exchange (Over x) (Over y) kinds there =
    gains-alike layer (kind_at tree x) (path_at tree x) (path_at other_tree y) (source_of tree move) (source_of other_tree other) there source
    ∙ ap (λ (kind : Kind). gains layer kind (path_at other_tree y) (source_of other_tree other)) (same_Some _ _ kinds)
other_gains-alike tree other_tree move other layer source Exchange (Over x) (New b) kinds there = cc
other_gains-alike tree other_tree move other layer source Exchange (New a) (Over y) kinds there = cc
other_gains-alike tree other_tree move other layer source Exchange (New a) (New b) kinds there = refl
other_gains-alike tree other_tree move other layer source Rename a b kinds there = refl
other_gains-alike tree other_tree move other layer source Link a b kinds there = refl

-- what is refused within a directory is what is refused there before any other is looked at
without_crossing : (denying holding : List ℕ)
    → refused_or Acces denying Passed ≡ within_one_directory (refused_or Acces denying (refused_or XDev holding Passed))
without_crossing [] [] = refl
without_crossing [] (layer ∷ layers) = refl
without_crossing (layer ∷ layers) holding = refl

-- ---- one layer

-- the same rules of a layer are on or above what two moves name
record AlikeFor (tree : List Entry) (move : Move) (other_tree : List Entry) (other : Move) (layer : RulesOn Path) : Type 0 where
  source : SameAbove (source_of tree move) (source_of other_tree other) layer
  destination : SameAbove (destination_of tree move.target) (destination_of other_tree other.target) layer
  object : SameAbove (path_at tree move.moved) (path_at other_tree other.moved) layer
  object_there : SameAbove (path_there tree move.target) (path_there other_tree other.target) layer

module _ (domain : List (RulesOn Path)) (tree : List Entry) (move : Move) (other_tree : List Entry) (other : Move)
    (alike : AreAlike domain tree move other_tree other) where
  alike_for_each : All (AlikeFor tree move other_tree other) domain
  alike_for_each k d within = record {
    source = alike.source k d within;
    destination = alike.destination k d within;
    object = alike.object k d within;
    object_there = alike.object_there k d within;
  }

  denies-alike : (layer : RulesOn Path) → AlikeFor tree move other_tree other layer → denies tree move layer ≡ denies other_tree other layer
  denies-alike layer here =
      let from : asked_of_source move.how (kind_at tree move.moved) (kind_there tree move.target)
      ≡ asked_of_source other.how (kind_at other_tree other.moved) (kind_there other_tree other.target) =
      ap (λ (how : How). asked_of_source how (kind_at tree move.moved) (kind_there tree move.target)) alike.how
      ∙ ap (λ (kind : Kind). asked_of_source other.how kind (kind_there tree move.target)) alike.kind
      ∙ ap (λ (there : Option Kind). asked_of_source other.how (kind_at other_tree other.moved) there) alike.kind_there in
      let to : asked_of_destination (kind_at tree move.moved) (kind_there tree move.target)
      ≡ asked_of_destination (kind_at other_tree other.moved) (kind_there other_tree other.target) =
      ap (λ (kind : Kind). asked_of_destination kind (kind_there tree move.target)) alike.kind
      ∙ ap (λ (there : Option Kind). asked_of_destination (kind_at other_tree other.moved) there) alike.kind_there in
      rw (
        lacks_one_of-alike (source_of tree move) (source_of other_tree other) layer here.source _ _ from,
        lacks_one_of-alike (destination_of tree move.target) (destination_of other_tree other.target) layer here.destination _ _ to,
      ) refl

  holds_back-alike : (layer : RulesOn Path) → AlikeFor tree move other_tree other layer → holds_back tree move layer ≡ holds_back other_tree other layer
  holds_back-alike layer here =
      let moved : gains layer (kind_at tree move.moved) (path_at tree move.moved) (destination_of tree move.target)
      ≡ gains layer (kind_at other_tree other.moved) (path_at other_tree other.moved) (destination_of other_tree other.target) =
      gains-alike layer (kind_at tree move.moved) _ _ _ _ here.object here.destination
      ∙ ap (λ (kind : Kind). gains layer kind (path_at other_tree other.moved) (destination_of other_tree other.target)) alike.kind in
      let exchanged : other_gains tree move layer move.how move.target ≡ other_gains other_tree other layer other.how other.target =
      other_gains-alike tree other_tree move other layer here.source move.how move.target other.target alike.kind_there here.object_there
      ∙ ap (λ (how : How). other_gains other_tree other layer how other.target) alike.how in
      rw (
        lacks_one_of-alike (source_of tree move) (source_of other_tree other) layer here.source (refer ∷ []) (refer ∷ []) refl,
        lacks_one_of-alike (destination_of tree move.target) (destination_of other_tree other.target) layer here.destination (refer ∷ []) (refer ∷ []) refl,
        moved,
        exchanged,
      ) refl

  -- ---- domains

  denied : numbers_from (denies tree move) 1 domain ≡ numbers_from (denies other_tree other) 1 domain
  denied = numbers-within (AlikeFor tree move other_tree other) (denies tree move) (denies other_tree other) denies-alike domain alike_for_each

  held : numbers_from (holds_back tree move) 1 domain ≡ numbers_from (holds_back other_tree other) 1 domain
  held = numbers-within (AlikeFor tree move other_tree other) (holds_back tree move) (holds_back other_tree other) holds_back-alike domain alike_for_each

  pub verdict_alike : stays tree move ≡ stays other_tree other → move_verdict tree domain move ≡ move_verdict other_tree domain other
  unfolding move_verdict
  verdict_alike within = rw (denied, within, held) refl

  pub verdict_where_one_stays : stays tree move ≡ true → stays other_tree other ≡ false
      → move_verdict tree domain move ≡ within_one_directory (move_verdict other_tree domain other)
  unfolding move_verdict
  verdict_where_one_stays within leaves =
      rw (denied, within, leaves) (without_crossing (numbers_from (denies other_tree other) 1 domain) (numbers_from (holds_back other_tree other) 1 domain))
