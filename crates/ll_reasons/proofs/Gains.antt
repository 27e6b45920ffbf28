-- With rules that grant what is named of a move between directories, a layer no longer holds it back.
use Rattle.std.proofs.Common.{◌≡◌, Bool, true, false, not, ◌&&◌, ◌||◌, List, [], ◌∷◌, ◌++◌, refl, sym, ap, ◌∙◌, subst, inl, inr}
use Rattle.std.specs.List.{list_any}
use Rattle.std.proofs.lemmas.Bool.{cases_Bool}
use Rattle.std.proofs.lemmas.List.Folds.{list_any-append}
use Rattle.std.proofs.lemmas.Slice.Eq.{bytes_eq-Decides}
use Rattle.std.specs.Prelude.{bytes_eq}
use Rattle.ll_rights.specs.declared.kind.Kind.{Kind}
use Rattle.ll_rights.specs.Rights.{FsRight, refer, is_right, is_file_right}
use Rattle.ll_rights.specs.Rights as files
use Rattle.ll_lines.specs.Paths.{Path, is_prefix, front}
use Rattle.ll_tree.specs.Trees.{Entry, path_at, kind_at, is_dir}
use Rattle.ll_rules.specs.declared.moves.Move.{Move}
use Rattle.ll_rules.specs.declared.moves.Target.{Target}
use Rattle.ll_rules.specs.declared.moves.Target.TheVariants.{New, Over}
use Rattle.ll_rules.specs.declared.moves.How.{How}
use Rattle.ll_rules.specs.declared.moves.How.TheVariants.{Rename, Exchange, Link}
use Rattle.ll_rules.specs.Layers.{handles, granted}
use Rattle.ll_rules.specs.Moves.{source_of, destination_of, lacks_one_of, gains, other_gains, holds_back}
use Rattle.ll_rules.proofs.Booleans.{or_false, and_none}
use Rattle.ll_rules.proofs.Climbs.{prefix-same, prefix-trans}
use Rattle.ll_semantics.specs.States.{Layer}
use Rattle.ll_reasons.specs.Objections.{Objection, gained, gained_rights, one_of, if_any, on_path, on_gain, on_other_gain, on_crossing}
use Rattle.ll_reasons.specs.Remedies.{all_satisfied}
use Rattle.ll_reasons.proofs.Named.{same_right, rights_named}
use Rattle.ll_reasons.proofs.Enough.{or_left, or_right, or_either, and_both, and_from, from_not, any_none, any_more, gives, granted-satisfied}
use Rattle.ll_reasons.proofs.Enough.{handles-satisfied, covered, gives-on_path, given_there}

-- ---- paths

pub prefix-front : (path : Path) → is_prefix (front path) path ≡ true
unfolding is_prefix front
prefix-front [] = refl
prefix-front (name ∷ []) = refl
prefix-front (name ∷ next ∷ names) = and_from (bytes_eq name name) _ ((bytes_eq-Decides name name).1 refl) (prefix-front (next ∷ names))

-- what is granted on a directory is granted under it
granted_under : (layer : Layer) (above path : Path) (right : FsRight) → is_prefix above path ≡ true → granted layer above right ≡ true
    → granted layer path right ≡ true
unfolding granted
granted_under layer above path right under grants =
    any_more (λ rule. is_prefix rule.0 above && files.has rule.1 right) (λ rule. is_prefix rule.0 path && files.has rule.1 right)
    (λ rule passes.
    (let both = and_both (is_prefix rule.0 above) (files.has rule.1 right) passes in
    and_from (is_prefix rule.0 path) (files.has rule.1 right) (prefix-trans rule.0 above path both.0 under) both.1))
    layer.file_rules grants

-- ---- what the rule for a gain grants

gives-if_any : (rights : List FsRight) (object directory path : Path) (right : FsRight)
    → list_any (gives path right) (if_any rights (gained object rights directory)) ≡ (is_prefix object path && one_of rights right)
unfolding gives
gives-if_any [] object directory path right = sym (and_none (is_prefix object path))
gives-if_any (one ∷ rights) object directory path right = or_false (is_prefix object path && one_of (one ∷ rights) right)

gives-on_gain : (kind : Kind) (object directory path : Path) (layer : Layer) (right : FsRight)
    → list_any (gives path right) (on_gain kind object directory layer)
    ≡ (is_prefix object path
    && (granted layer directory right && (handles layer right && (is_dir kind || is_file_right right)) && not (granted layer object right)))
unfolding on_gain
gives-on_gain kind object directory path layer right =
    gives-if_any (gained_rights layer kind object directory) object directory path right
    ∙ ap (λ (b : Bool). is_prefix object path && b) (rights_named
    (λ right. granted layer directory right && (handles layer right && (is_dir kind || is_file_right right)) && not (granted layer object right)) right)

-- only what the directory grants is gained
gain_granted : (kind : Kind) (object directory path : Path) (layer : Layer) (right : FsRight)
    → list_any (gives path right) (on_gain kind object directory layer) ≡ true → granted layer directory right ≡ true
gain_granted kind object directory path layer right given =
    let parts = and_both (is_prefix object path) _ (sym (gives-on_gain kind object directory path layer right) ∙ given) in
    (and_both (granted layer directory right) _
    (and_both (granted layer directory right && (handles layer right && (is_dir kind || is_file_right right))) _ parts.1).0).0

-- what is gained is given on the object
gain_there : (kind : Kind) (object directory path : Path) (layer : Layer) (right : FsRight)
    → list_any (gives path right) (on_gain kind object directory layer) ≡ true → list_any (gives object right) (on_gain kind object directory layer) ≡ true
gain_there kind object directory path layer right given =
    let parts = and_both (is_prefix object path) _ (sym (gives-on_gain kind object directory path layer right) ∙ given) in
    gives-on_gain kind object directory object layer right ∙ and_from (is_prefix object object) _ (prefix-same object) parts.1

gain_named : (kind : Kind) (object directory : Path) (layer : Layer) (right : FsRight) → granted layer directory right ≡ true
    → (handles layer right && (is_dir kind || is_file_right right)) ≡ true → granted layer object right ≡ false
    → list_any (gives object right) (on_gain kind object directory layer) ≡ true
gain_named kind object directory layer right grants counts lacks =
    gives-on_gain kind object directory object layer right
    ∙ and_from (is_prefix object object) _ (prefix-same object)
    (and_from (granted layer directory right && (handles layer right && (is_dir kind || is_file_right right))) (not (granted layer object right))
    (and_from (granted layer directory right) _ grants counts) (from_not (granted layer object right) lacks))

-- ---- what the rule for `refer` on a directory grants

only_refer : (there path : Path) (layer : Layer) (right : FsRight)
    → list_any (gives path right) (on_path there (one_of (refer ∷ [])) layer) ≡ true → right ≡ refer
only_refer there path layer right given =
    let parts = and_both (is_prefix there path) _ (sym (gives-on_path there path (one_of (refer ∷ [])) layer right) ∙ given) in
    let asked = (and_both (one_of (refer ∷ []) right) _ (and_both (one_of (refer ∷ []) right && handles layer right) _ parts.1).0).0 in
    same_right right refer (sym (or_false (is_right right refer)) ∙ asked)

-- where `refer` is handled, it is granted under the directory by then
refer_under : (there path : Path) (layer : Layer) → is_prefix there path ≡ true → handles layer refer ≡ true
    → (list_any (gives path refer) (on_path there (one_of (refer ∷ [])) layer) || granted layer path refer) ≡ true
refer_under there path layer under handled = elim (cases_Bool (granted layer there refer)) [
  | inl grants ↦ or_right (list_any (gives path refer) (on_path there (one_of (refer ∷ [])) layer)) (granted layer path refer)
      (granted_under layer there path refer under grants)
  | inr lacks ↦ or_left (list_any (gives path refer) (on_path there (one_of (refer ∷ [])) layer)) (granted layer path refer)
      (gives-on_path there path (one_of (refer ∷ [])) layer refer
      ∙ and_from (is_prefix there path) _ under
      (and_from (one_of (refer ∷ []) refer && handles layer refer) (not (granted layer there refer)) handled (from_not (granted layer there refer) lacks)))
]

-- ---- a move between two directories

any_four : {X : Type 0} (f : X → Bool) (a b c d : List X) → list_any f (a ++ b ++ c ++ d) ≡ (((list_any f a || list_any f b) || list_any f c) || list_any f d)
any_four f a b c d =
    list_any-append f (a ++ b ++ c) d
    ∙ ap (λ (t : Bool). t || list_any f d) (list_any-append f (a ++ b) c ∙ ap (λ (t : Bool). t || list_any f c) (list_any-append f a b))

-- An object goes from one directory to another; `others` is what is said of the other object of an exchange.
module _ (layer : Layer) (kind : Kind) (object source destination : Path) (others : List Objection) where
  abbrev all : List Objection
  all = on_path source (one_of (refer ∷ [])) layer ++ on_path destination (one_of (refer ∷ [])) layer ++ on_gain kind object destination layer ++ others

  a : Path → FsRight → Bool
  a path right = list_any (gives path right) (on_path source (one_of (refer ∷ [])) layer)

  b : Path → FsRight → Bool
  b path right = list_any (gives path right) (on_path destination (one_of (refer ∷ [])) layer)

  c : Path → FsRight → Bool
  c path right = list_any (gives path right) (on_gain kind object destination layer)

  d : Path → FsRight → Bool
  d path right = list_any (gives path right) others

  all_four : (path : Path) (right : FsRight) → list_any (gives path right) all ≡ (((a path right || b path right) || c path right) || d path right)
  unfolding a b c d
  all_four path right =
      any_four (gives path right) (on_path source (one_of (refer ∷ [])) layer) (on_path destination (one_of (refer ∷ [])) layer)
      (on_gain kind object destination layer) others

  by_parts : (path : Path) (right : FsRight)
      → granted (all_satisfied layer all) path right ≡ ((((a path right || b path right) || c path right) || d path right) || granted layer path right)
  by_parts path right = granted-satisfied all layer path right ∙ ap (λ (t : Bool). t || granted layer path right) (all_four path right)

  by_a : (path : Path) (right : FsRight) → (a path right || granted layer path right) ≡ true → granted (all_satisfied layer all) path right ≡ true
  by_a path right holds = by_parts path right ∙ or_either (a path right) (granted layer path right) holds
      (λ here. or_left _ (granted layer path right) (or_left _ (d path right) (or_left _ (c path right) (or_left (a path right) (b path right) here))))
      (λ old. or_right (((a path right || b path right) || c path right) || d path right) (granted layer path right) old)

  by_b : (path : Path) (right : FsRight) → (b path right || granted layer path right) ≡ true → granted (all_satisfied layer all) path right ≡ true
  by_b path right holds = by_parts path right ∙ or_either (b path right) (granted layer path right) holds
      (λ here. or_left _ (granted layer path right) (or_left _ (d path right) (or_left _ (c path right) (or_right (a path right) (b path right) here))))
      (λ old. or_right (((a path right || b path right) || c path right) || d path right) (granted layer path right) old)

  by_c : (path : Path) (right : FsRight) → c path right ≡ true → granted (all_satisfied layer all) path right ≡ true
  by_c path right here =
      by_parts path right ∙ or_left _ (granted layer path right) (or_left _ (d path right) (or_right (a path right || b path right) (c path right) here))

  by_d : (path : Path) (right : FsRight) → d path right ≡ true → granted (all_satisfied layer all) path right ≡ true
  by_d path right here =
      by_parts path right ∙ or_left _ (granted layer path right) (or_right ((a path right || b path right) || c path right) (d path right) here)

  by_old : (path : Path) (right : FsRight) → granted layer path right ≡ true → granted (all_satisfied layer all) path right ≡ true
  by_old path right old = by_parts path right ∙ or_right (((a path right || b path right) || c path right) || d path right) (granted layer path right) old

  -- a right that is granted by then was granted before, or one rule grants it
  by_rule : {P : Type 0} (path : Path) (right : FsRight) → granted (all_satisfied layer all) path right ≡ true → (a path right ≡ true → P)
      → (b path right ≡ true → P) → (c path right ≡ true → P) → (d path right ≡ true → P) → (granted layer path right ≡ true → P) → P
  by_rule path right holds is_a is_b is_c is_d is_old =
      or_either (((a path right || b path right) || c path right) || d path right) (granted layer path right) (sym (by_parts path right) ∙ holds)
      (λ new. or_either ((a path right || b path right) || c path right) (d path right) new
      (λ three. or_either (a path right || b path right) (c path right) three
      (λ two. or_either (a path right) (b path right) two is_a is_b) is_c) is_d) is_old

  named_by_a : (path : Path) (right : FsRight) → a path right ≡ true → list_any (gives path right) all ≡ true
  named_by_a path right here =
      all_four path right ∙ or_left _ (d path right) (or_left _ (c path right) (or_left (a path right) (b path right) here))

  named_by_b : (path : Path) (right : FsRight) → b path right ≡ true → list_any (gives path right) all ≡ true
  named_by_b path right here =
      all_four path right ∙ or_left _ (d path right) (or_left _ (c path right) (or_right (a path right) (b path right) here))

  pub source_enough : lacks_one_of (all_satisfied layer all) source (refer ∷ []) ≡ false
  unfolding a
  source_enough =
      covered layer all source (one_of (refer ∷ [])) (λ right lacking. named_by_a source right (given_there source (one_of (refer ∷ [])) layer right lacking))

  pub destination_enough : lacks_one_of (all_satisfied layer all) destination (refer ∷ []) ≡ false
  unfolding b
  destination_enough = covered layer all destination (one_of (refer ∷ []))
      (λ right lacking. named_by_b destination right (given_there destination (one_of (refer ∷ [])) layer right lacking))

  -- the object gains nothing
  object_refers : (right : FsRight) → is_prefix source object ≡ true → handles layer right ≡ true → right ≡ refer
      → granted (all_satisfied layer all) object right ≡ true
  unfolding a
  object_refers right above handled is =
      by_a object right (subst (λ (one : FsRight). (a object one || granted layer object one) ≡ true) (sym is)
      (refer_under source object layer above (subst (λ (one : FsRight). handles layer one ≡ true) is handled)))

  object_granted : (right : FsRight) → is_prefix source object ≡ true → ((path : Path) → d path right ≡ true → granted layer source right ≡ true)
      → (handles layer right && (is_dir kind || is_file_right right)) ≡ true
      → granted (all_satisfied layer all) destination right ≡ true → granted (all_satisfied layer all) object right ≡ true
  unfolding a b c
  object_granted right above by_source counts holds =
      by_rule destination right holds
      (λ in_a. object_refers right above (and_both (handles layer right) _ counts).0 (only_refer source destination layer right in_a))
      (λ in_b. object_refers right above (and_both (handles layer right) _ counts).0 (only_refer destination destination layer right in_b))
      (λ in_c. by_c object right (gain_there kind object destination destination layer right in_c))
      (λ in_d. by_old object right (granted_under layer source object right above (by_source destination in_d)))
      (λ old. (elim (cases_Bool (granted layer object right)) [
        | inl grants ↦ by_old object right grants
        | inr lacks ↦ by_c object right (gain_named kind object destination layer right old counts lacks)
      ]))

  nothing_gained : (x y z : Bool) → (y ≡ true → x ≡ true → z ≡ true) → (x && y && not z) ≡ false
  nothing_gained false y z so = refl
  nothing_gained true false z so = refl
  nothing_gained true true true so = refl
  nothing_gained true true false so = (let both : false ≡ true = so refl refl in cc)

  pub object_enough : is_prefix source object ≡ true → ((path : Path) (right : FsRight) → list_any (gives path right) others ≡ true
      → granted layer source right ≡ true) → gains (all_satisfied layer all) kind object destination ≡ false
  unfolding d files.some_right
  object_enough above by_source =
      any_none (λ right. granted (all_satisfied layer all) destination right
      && (handles (all_satisfied layer all) right && (is_dir kind || is_file_right right)) && not (granted (all_satisfied layer all) object right))
      (λ right. rw (handles-satisfied all layer right)
      (nothing_gained (granted (all_satisfied layer all) destination right) (handles layer right && (is_dir kind || is_file_right right))
      (granted (all_satisfied layer all) object right)
      (object_granted right above (λ path given. by_source path right given))))
      files.all_rights

  -- the other object of an exchange gains nothing
  module _ (other_kind : Kind) (other : Path) (is_gain : others ≡ on_gain other_kind other source layer) (above : is_prefix destination other ≡ true) where
    by_gain : (path : Path) (right : FsRight) → d path right ≡ list_any (gives path right) (on_gain other_kind other source layer)
    unfolding d
    by_gain path right = ap (λ (objections : List Objection). list_any (gives path right) objections) is_gain

    other_refers : (right : FsRight) → handles layer right ≡ true → right ≡ refer → granted (all_satisfied layer all) other right ≡ true
    unfolding b
    other_refers right handled is =
        by_b other right (subst (λ (one : FsRight). (b other one || granted layer other one) ≡ true) (sym is)
        (refer_under destination other layer above (subst (λ (one : FsRight). handles layer one ≡ true) is handled)))

    other_granted : (right : FsRight) → (handles layer right && (is_dir other_kind || is_file_right right)) ≡ true
        → granted (all_satisfied layer all) source right ≡ true → granted (all_satisfied layer all) other right ≡ true
    unfolding a b c
    other_granted right counts holds =
        by_rule source right holds
        (λ in_a. other_refers right (and_both (handles layer right) _ counts).0 (only_refer source source layer right in_a))
        (λ in_b. other_refers right (and_both (handles layer right) _ counts).0 (only_refer destination source layer right in_b))
        (λ in_c. by_old other right (granted_under layer destination other right above (gain_granted kind object destination source layer right in_c)))
        (λ in_d. by_d other right (by_gain other right ∙ gain_there other_kind other source source layer right (sym (by_gain source right) ∙ in_d)))
        (λ old. (elim (cases_Bool (granted layer other right)) [
          | inl grants ↦ by_old other right grants
          | inr lacks ↦ by_d other right (by_gain other right ∙ gain_named other_kind other source layer right old counts lacks)
        ]))

    pub other_enough : gains (all_satisfied layer all) other_kind other source ≡ false
    unfolding files.some_right
    other_enough =
        any_none (λ right. granted (all_satisfied layer all) source right
        && (handles (all_satisfied layer all) right && (is_dir other_kind || is_file_right right)) && not (granted (all_satisfied layer all) other right))
        (λ right. rw (handles-satisfied all layer right)
        (nothing_gained (granted (all_satisfied layer all) source right) (handles layer right && (is_dir other_kind || is_file_right right))
        (granted (all_satisfied layer all) other right) (other_granted right)))
        files.all_rights

-- ---- the law

by_the_source : (tree : List Entry) (move : Move) (how : How) (target : Target) (layer : Layer) (path : Path) (right : FsRight)
    → list_any (gives path right) (on_other_gain tree move how target layer) ≡ true → granted layer (source_of tree move) right ≡ true
unfolding on_other_gain
by_the_source tree move Exchange (Over there) layer path right given =
    gain_granted (kind_at tree there) (path_at tree there) (source_of tree move) path layer right given
by_the_source tree move Exchange (New directory) layer path right given = cc
by_the_source tree move Rename target layer path right given = cc
by_the_source tree move Link target layer path right given = cc

-- a layer with the rules for a move, by how it goes and where
abbrev remedied : List Entry → Move → How → Target → Layer → Layer
remedied tree move how target layer =
    all_satisfied layer (all layer (kind_at tree move.moved) (path_at tree move.moved) (source_of tree move) (destination_of tree target)
    (on_other_gain tree move how target layer))

others_enough : (tree : List Entry) (move : Move) (how : How) (target : Target) (layer : Layer)
    → other_gains tree move (remedied tree move how target layer) how target ≡ false
unfolding on_other_gain
others_enough tree move Exchange (Over there) layer =
    other_enough layer (kind_at tree move.moved) (path_at tree move.moved) (source_of tree move) (front (path_at tree there))
    (on_gain (kind_at tree there) (path_at tree there) (source_of tree move) layer)
    (kind_at tree there) (path_at tree there) refl (prefix-front (path_at tree there))
others_enough tree move Exchange (New directory) layer = refl
others_enough tree move Rename target layer = refl
others_enough tree move Link target layer = refl

pub crossing_enough : (tree : List Entry) (move : Move) (layer : Layer) → holds_back tree move (all_satisfied layer (on_crossing tree move layer)) ≡ false
unfolding on_crossing
crossing_enough tree move layer =
    let others : List Objection = on_other_gain tree move move.how move.target layer in
    let object : Path = path_at tree move.moved in
    let source : Path = source_of tree move in
    let destination : Path = destination_of tree move.target in
    let kind : Kind = kind_at tree move.moved in
    rw (
      source_enough layer kind object source destination others,
      destination_enough layer kind object source destination others,
      object_enough layer kind object source destination others (prefix-front object) (by_the_source tree move move.how move.target layer),
      others_enough tree move move.how move.target layer,
    ) refl
