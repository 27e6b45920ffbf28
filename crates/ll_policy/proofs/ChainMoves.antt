-- A move between two directories of a tree passes exactly where it does by the chains of its ways up.
use Rattle.std.proofs.Common.{◌≡◌, ℕ, ◌+◌, Bool, true, false, not, ◌&&◌, ◌||◌, List, [], ◌∷◌, map, refl, sym, ap, ◌∙◌, arith}
use Rattle.std.specs.Prelude.{All, filter, if◌then◌else◌}
use Rattle.std.specs.List.{Contains, list_any, list_all}
use Rattle.std.proofs.lemmas.List.Elements.{All-contains}
use Rattle.std.proofs.lemmas.Bool.{or_right}
use Rattle.ll_rights.specs.declared.kind.Kind.{Kind}
use Rattle.ll_rights.specs.Rights.{FsRight, refer, only, some_right, all_rights, is_file_right}
use Rattle.ll_rights.specs.Kinds.{make_right_of, remove_right_of}
use Rattle.ll_lines.specs.Paths.{Path, front}
use Rattle.ll_tree.specs.declared.place.NodeId.{NodeId}
use Rattle.ll_tree.specs.Trees.{Entry, path_at, kind_at, is_dir}
use Rattle.ll_rules.specs.declared.moves.Target.TheVariants.{New}
use Rattle.ll_rules.specs.Layers.{RulesOn, handles, granted}
use Rattle.ll_rules.specs.InTree.{in_tree, all_in_tree}
use Rattle.ll_rules.specs.Checks.{numbers_from, refusing}
use Rattle.ll_rules.specs.Moves.{lacks_one_of, gains, denies, holds_back}
use Rattle.ll_rules.proofs.Booleans.{or_false}
use Rattle.ll_policy.specs.Chains.{Granting, is_among, some_among}
use Rattle.ll_policy.specs.Chains as chains
use Rattle.ll_policy.specs.Granted.{granting}
use Rattle.ll_policy.specs.WaysUp.{ruled, all_ruled, way_up}
use Rattle.ll_policy.specs.Verdicts.{lets_pass, lets_use, is_none, linking, renaming}
use Rattle.ll_policy.specs.Moving.{applies, about_moves, gains_nothing, gains_none, comes, link_passes, rename_passes, IsWayUp, GoesBy}
use Rattle.ll_policy.proofs.Lists.{in_flat_map, that_passes, some_passes, all_of_mapped, here, there}
use Rattle.ll_policy.proofs.Bridge.{AreRuledBy, by_way, cons_or_nil, handles_alike, equal_tests}
use Rattle.ll_policy.proofs.Alike.{refused_in_region}
use Rattle.ll_policy.proofs.PassingMoves.{parts, lacks_none, usable, none_by, none_by_either, none_alike, rename_parts}

-- ---- one right

none_if_empty : (layers : List ℕ) (passing : Bool) → (passing ≡ true → layers ≡ []) → (layers ≡ [] → passing ≡ true) → is_none layers ≡ passing
none_if_empty [] passing forth back = sym (back refl)
none_if_empty (layer ∷ layers) true forth back = absurd (cons_or_nil layer layers (forth refl))
none_if_empty (layer ∷ layers) false forth back = refl

module _ (tree : List Entry) (nodes : List ℕ) (path : Path) (chain : List ℕ) (is : IsWayUp tree nodes path chain) where
  usable_on_chain : (layers : List (RulesOn ℕ)) → All (Contains nodes) (all_ruled layers) → (right : FsRight)
      → lets_use (all_in_tree tree layers) path right ≡ chains.passes (map (granting right) layers) chain
  usable_on_chain layers listed right =
      let same = refused_in_region tree layers nodes chain path right listed is.on is.under in
      none_if_empty (refusing (all_in_tree tree layers) path (only right)) (chains.passes (map (granting right) layers) chain) same.0 same.1

  among_more : (part whole grants : List ℕ) → All (Contains whole) part → some_among part grants ≡ true → some_among whole grants ≡ true
  unfolding some_among
  among_more part whole grants within some =
      let found = that_passes (λ (object : ℕ). is_among object grants) part some in
      some_passes (λ (object : ℕ). is_among object grants) whole found.0 (All-contains (Contains whole) part found.0 within found.1) found.2

  granted_on_chain : (layer : RulesOn ℕ) → AreRuledBy nodes layer → (right : FsRight)
      → granted (in_tree tree layer) path right ≡ some_among chain (granting right layer).grants
  granted_on_chain layer within right =
      let grants = (granting right layer).grants in
      sym (by_way tree nodes layer path right within)
      ∙ equal_tests (some_among (way_up tree nodes path) grants) (some_among chain grants)
      (among_more (way_up tree nodes path) chain grants is.on) (among_more chain (way_up tree nodes path) grants is.under)

-- ---- gains

none_never : {L : Type 0} (first : ℕ) (some : List L) → is_none (numbers_from (λ layer. false) first some) ≡ true
unfolding numbers_from
none_never first [] = refl
none_never first (layer ∷ rest) = none_never (first + 1) rest

-- no layer passes any of some tests where none passes the first, and so on
none_of_all : {L A : Type 0} (test : A → L → Bool) (number : ℕ) (layers : List L) (rights : List A)
    → is_none (numbers_from (λ layer. list_any (λ right. test right layer) rights) number layers)
    ≡ list_all (λ right. is_none (numbers_from (test right) number layers)) rights
none_of_all test number layers [] = none_never number layers
none_of_all test number layers (right ∷ rights) =
    none_by_either (test right) (λ layer. list_any (λ other. test other layer) rights) number layers
    ∙ ap (λ (b : Bool). is_none (numbers_from (test right) number layers) && b) (none_of_all test number layers rights)

all_kept : {A : Type 0} (p test also : A → Bool) → ((x : A) → test x ≡ (not (p x) || also x)) → (xs : List A) → list_all test xs ≡ list_all also (filter p xs)
all_kept p test also same [] = refl
all_kept {A = A} p test also same (x ∷ xs) =
    rw (same x, all_kept p test also same xs) (by_test (p x))
  where
    by_test : (b : Bool) → ((not b || also x) && list_all also (filter p xs)) ≡ list_all also (if b then x ∷ filter p xs else filter p xs)
    by_test true = refl
    by_test false = refl

gain_of_right : (t h a o : Bool) → not (t && (h && a) && not o) ≡ (not a || (not (h && t) || o))
gain_of_right true true true true = refl
gain_of_right true true true false = refl
gain_of_right true true false o = refl
gain_of_right true false true o = refl
gain_of_right true false false o = refl
gain_of_right false true true o = refl
gain_of_right false true false o = refl
gain_of_right false false true o = refl
gain_of_right false false false o = refl

module _ (tree : List Entry) (layers : List (RulesOn ℕ)) (moved directory : NodeId) (object from to : List ℕ)
    (goes : GoesBy tree layers moved directory object from to) where
  abbrev kind : Kind
  kind = kind_at tree moved

  abbrev here_is : Path
  here_is = path_at tree moved

  abbrev there_is : Path
  there_is = path_at tree directory

  abbrev gains_right : FsRight → RulesOn Path → Bool
  gains_right right layer =
      granted layer there_is right && (handles layer right && (is_dir kind || is_file_right right)) && not (granted layer here_is right)

  right_kept : (right : FsRight) (layer : RulesOn ℕ) → AreRuledBy goes.nodes layer
      → not (gains_right right (in_tree tree layer)) ≡ (not (applies kind right) || gains_nothing object to (granting right layer))
  unfolding gains_nothing
  right_kept right layer within =
      let already : Bool = some_among object (granting right layer).grants in
      rw (
        granted_on_chain tree goes.nodes here_is object goes.of_object layer within right,
        granted_on_chain tree goes.nodes there_is to goes.of_destination layer within right,
        handles_alike tree layer right,
      ) (gain_of_right (some_among to (granting right layer).grants) (handles layer right) (applies kind right) already)

  or_all : (b c d : Bool) → ((not b || c) && (not b || d)) ≡ (not b || (c && d))
  or_all true c d = refl
  or_all false c d = refl

  none_gains : (right : FsRight) (number : ℕ) (some : List (RulesOn ℕ)) → ((layer : RulesOn ℕ) → Contains some layer → AreRuledBy goes.nodes layer)
      → is_none (numbers_from (gains_right right) number (all_in_tree tree some))
      ≡ (not (applies kind right) || list_all (gains_nothing object to) (map (granting right) some))
  unfolding numbers_from
  none_gains right number [] within = sym (or_right (not (applies kind right)) true refl)
  none_gains right number (layer ∷ some) within =
      none_by (gains_right right) number (in_tree tree layer) (all_in_tree tree some)
      ∙ rw (
        right_kept right layer (within layer (here layer some)),
        none_gains right (number + 1) some (λ other inside. within other (there layer some other inside)),
      ) refl
      ∙ or_all (applies kind right) (gains_nothing object to (granting right layer)) (list_all (gains_nothing object to) (map (granting right) some))

  each_ruled : (layer : RulesOn ℕ) → Contains layers layer → AreRuledBy goes.nodes layer
  unfolding all_ruled
  each_ruled layer inside number ruled_there =
      All-contains (Contains goes.nodes) (all_ruled layers) number goes.listed (in_flat_map ruled layers layer number inside ruled_there)

  no_layer_gains : is_none (numbers_from (λ layer. gains layer kind here_is there_is) 1 (all_in_tree tree layers))
      ≡ gains_none object to (about_moves kind layers).gained
  unfolding gains_none some_right
  no_layer_gains =
      let kept = λ (right : FsRight). list_all (gains_nothing object to) (map (granting right) layers) in
      none_of_all gains_right 1 (all_in_tree tree layers) all_rights
      ∙ all_kept (applies kind) (λ right. is_none (numbers_from (gains_right right) 1 (all_in_tree tree layers))) kept
      (λ right. none_gains right 1 layers each_ruled) all_rights
      ∙ sym (all_of_mapped (λ some. list_all (gains_nothing object to) some) (λ right. map (granting right) layers) (filter (applies kind) all_rights))

  -- ---- the two moves

  regroup : (m f t g : Bool) → (m && ((f && t) && g)) ≡ ((m && t) && (f && g))
  regroup m f t g = grind arith

  pub link_by_chains : lets_pass (all_in_tree tree layers) tree (linking moved (New directory)) ≡ link_passes (about_moves kind layers) object from to
  unfolding link_passes comes
  link_by_chains =
      let domain = all_in_tree tree layers in
      let source = front here_is in
      let move = linking moved (New directory) in
      let lacking = λ (path : Path) (right : FsRight) (layer : RulesOn Path). lacks_one_of layer path (right ∷ []) in
      let gaining = λ (layer : RulesOn Path). gains layer kind here_is there_is in
      let made : is_none (numbers_from (denies tree move) 1 domain) ≡ lets_use domain there_is (make_right_of kind) =
      none_alike (denies tree move) (lacking there_is (make_right_of kind))
      (λ layer. ap (λ (b : Bool). b || lacking there_is (make_right_of kind) layer) (lacks_none layer source)) 1 domain
      ∙ usable domain there_is (make_right_of kind) in
      let held : is_none (numbers_from (holds_back tree move) 1 domain)
      ≡ ((lets_use domain source refer && lets_use domain there_is refer) && gains_none object to (about_moves kind layers).gained) =
      none_by_either (λ layer. lacking source refer layer || lacking there_is refer layer) (λ layer. gaining layer || false) 1 domain
      ∙ rw (
        none_by_either (lacking source refer) (lacking there_is refer) 1 domain,
        usable domain source refer,
        usable domain there_is refer,
        none_alike (λ layer. gaining layer || false) gaining (λ layer. or_false (gaining layer)) 1 domain,
        no_layer_gains,
      ) refl in
      parts domain tree move
      ∙ rw (
        made,
        held,
        goes.leaves,
        usable_on_chain tree goes.nodes source from goes.of_source layers goes.listed refer,
        usable_on_chain tree goes.nodes there_is to goes.of_destination layers goes.listed refer,
        usable_on_chain tree goes.nodes there_is to goes.of_destination layers goes.listed (make_right_of kind),
      ) (regroup (chains.passes (about_moves kind layers).make to) (chains.passes (about_moves kind layers).refer from)
      (chains.passes (about_moves kind layers).refer to) (gains_none object to (about_moves kind layers).gained))

  pub rename_by_chains : lets_pass (all_in_tree tree layers) tree (renaming moved (New directory)) ≡ rename_passes (about_moves kind layers) object from to
  unfolding rename_passes
  rename_by_chains =
      rename_parts (all_in_tree tree layers) tree moved (New directory)
      ∙ rw (link_by_chains, usable_on_chain tree goes.nodes (front here_is) from goes.of_source layers goes.listed (remove_right_of kind)) refl
