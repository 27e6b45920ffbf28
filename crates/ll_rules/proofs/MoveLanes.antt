-- What a move's lanes say of each layer: what it denies, and why it keeps the move from leaving the directory.
use Rattle.std.proofs.Common.{◌≡◌, ℕ, ◌+◌, ◌*◌, ◌≤◌, Bool, true, false, not, ◌&&◌, ◌||◌, List, [], ◌∷◌, length, refl, sym, ap, subst, ◌∙◌, arith, ◌⊎◌, inl, inr}
use Rattle.std.specs.List.{list_any}
use Rattle.ll_rights.specs.declared.fs.Fs.{Fs}
use Rattle.ll_rights.specs.Rights as files
use Rattle.ll_rights.specs.Rights.{FsRight, has, some_right, all_rights, is_right, is_file_right, is_lacking, refer, only}
use Rattle.ll_rights.specs.NetRights as network
use Rattle.ll_tree.specs.declared.place.NodeId.{NodeId}
use Rattle.ll_lines.specs.Paths.{Path, front}
use Rattle.ll_tree.specs.Trees.{Entry, IsNode, path_at, kind_at, is_dir}
use Rattle.ll_tree.specs.TreeFacts.{IsTree, depth_at}
use Rattle.ll_rules.specs.declared.domain.TheConstants.{MOST_LAYERS}
use Rattle.ll_rules.specs.declared.moves.Move.{Move}
use Rattle.ll_rules.specs.declared.moves.Target.{Target}
use Rattle.ll_rules.specs.declared.moves.Target.TheVariants.{New, Over}
use Rattle.ll_rules.specs.declared.moves.How.{How}
use Rattle.ll_rules.specs.declared.moves.How.TheVariants.{Rename, Exchange, Link}
use Rattle.ll_rules.specs.Layers.{RulesOn, without_rules, handles, granted}
use Rattle.ll_rules.specs.KeptLayers.{granted_on_node, domain_of}
use Rattle.ll_rules.specs.InTree.{in_tree, AreInTree, all_in_tree, IsTargetIn}
use Rattle.ll_rules.specs.Checks.{numbers_where}
use Rattle.ll_rules.specs.LayerNumbers.{numbers_passing}
use Rattle.ll_rules.specs.Lanes.{lane, is_filled, layer_in, AreLacking}
use Rattle.ll_rules.specs.declared.domain.LayerId.{LayerId}
use Rattle.ll_rules.specs.Moves.{source_of, destination_of, kind_there, asked_of_source, asked_of_destination, lacks_one_of, denies, gains, other_gains}
use Rattle.ll_rules.specs.Moves.{holds_back}
use Rattle.ll_rules.proofs.Booleans.{list_any-or, and_none}
use Rattle.ll_rules.proofs.Climbs.{from_path, granted_on-node}
use Rattle.ll_rules.proofs.AskedRights.{some_agree, one_asked}
use Rattle.ll_rules.proofs.DomainLanes.{none_lacking, nothing_handled, filled_in_tree}

some_or : (f g : FsRight → Bool) → some_right (λ right. f right || g right) ≡ (some_right f || some_right g)
unfolding some_right
some_or f g = list_any-or f g all_rights

-- ---- what is denied

asked_last : (h g asked : Bool) → ((h && not g) && asked) ≡ (asked && h && not g)
asked_last true true true = refl
asked_last true true false = refl
asked_last true false true = refl
asked_last true false false = refl
asked_last false g true = refl
asked_last false g false = refl

module _ (rules : RulesOn Path) (source destination : Path) (lacks_here lacks_there : FsRight → Bool)
    (here : (right : FsRight) → lacks_here right ≡ (handles rules right && not (granted rules source right)))
    (there : (right : FsRight) → lacks_there right ≡ (handles rules right && not (granted rules destination right))) where
  pub denied_some : (set from to : Fs) (asked_from asked_to : List FsRight) → ((right : FsRight) → has from right ≡ list_any (is_right right) asked_from)
      → ((right : FsRight) → has to right ≡ list_any (is_right right) asked_to)
      → ((right : FsRight) → has set right ≡ ((lacks_here right && has from right) || (lacks_there right && has to right)))
      → some_right (has set) ≡ (lacks_one_of rules source asked_from || lacks_one_of rules destination asked_to)
  denied_some set from to asked_from asked_to from_is to_is is =
      let on_source : FsRight → Bool = λ right. list_any (is_right right) asked_from && handles rules right && not (granted rules source right) in
      let on_destination : FsRight → Bool = λ right. list_any (is_right right) asked_to && handles rules right && not (granted rules destination right) in
      some_agree (has set) (λ right. on_source right || on_destination right)
      (λ right.
      is right
      ∙ ap (λ (b : Bool). b || (lacks_there right && has to right)) (ap (λ (b : Bool). b && has from right) (here right)
      ∙ asked_last (handles rules right) (granted rules source right) (has from right)
      ∙ ap (λ (b : Bool). b && handles rules right && not (granted rules source right)) (from_is right))
      ∙ ap (λ (b : Bool). on_source right || b) (ap (λ (b : Bool). b && has to right) (there right)
      ∙ asked_last (handles rules right) (granted rules destination right) (has to right)
      ∙ ap (λ (b : Bool). b && handles rules right && not (granted rules destination right)) (to_is right)))
      ∙ some_or on_source on_destination

  or_and_here : (a b c : Bool) → ((a || b) && c) ≡ ((a && c) || (b && c))
  or_and_here true b true = refl
  or_and_here true true false = refl
  or_and_here true false false = refl
  or_and_here false b c = refl

  -- what keeps a move: the right to move files between directories is missing on one of them
  pub kept_some : (set crossing : Fs) → crossing ≡ only refer
      → ((right : FsRight) → has set right ≡ ((lacks_here right || lacks_there right) && has crossing right))
      → some_right (has set) ≡ (lacks_one_of rules source (refer ∷ []) || lacks_one_of rules destination (refer ∷ []))
  kept_some set crossing is_refer is =
      denied_some set crossing crossing (refer ∷ []) (refer ∷ []) (λ right. one_asked crossing refer right is_refer)
      (λ right. one_asked crossing refer right is_refer)
      (λ right. is right ∙ or_and_here (lacks_here right) (lacks_there right) (has crossing right))

-- ---- what is gained

granted_with : (tree : List Entry) (rules : RulesOn ℕ) (object : NodeId) (right : FsRight) → IsTree tree → IsNode tree object → AreInTree tree rules
    → granted (in_tree tree rules) (path_at tree object) right
    ≡ (granted_on_node rules object right || granted (in_tree tree rules) (front (path_at tree object)) right)
granted_with tree rules object right listed inside within =
    from_path (in_tree tree rules) (path_at tree object) (front (path_at tree object)) (granted_on_node rules object right) right
    (granted_on-node tree rules object right listed inside within) refl

-- handled, granted where the object is, granted where it goes, counted, granted by its own rule
gained_bool : (h here there counted own : Bool)
    → ((((h && not here) && not (h && not there)) && counted) && not own) ≡ (there && (h && counted) && not (own || here))
gained_bool true true true true true = refl
gained_bool true true true true false = refl
gained_bool true true true false own = refl
gained_bool true true false counted own = refl
gained_bool true false true true true = refl
gained_bool true false true true false = refl
gained_bool true false true false own = refl
gained_bool true false false counted own = refl
gained_bool false here true counted own = refl
gained_bool false here false counted own = refl

pub gained_some : (tree : List Entry) (rules : RulesOn ℕ) (object : NodeId) (there : Path) (set lacks_here lacks_there : Fs) → IsTree tree
    → IsNode tree object → AreInTree tree rules
    → ((right : FsRight) → has lacks_here right ≡ (handles rules right && not (granted (in_tree tree rules) (front (path_at tree object)) right)))
    → ((right : FsRight) → has lacks_there right ≡ (handles rules right && not (granted (in_tree tree rules) there right)))
    → ((right : FsRight) → has set right ≡ (((has lacks_here right && not (has lacks_there right)) && (is_dir (kind_at tree object) || is_file_right right))
    && not (granted_on_node rules object right)))
    → some_right (has set) ≡ gains (in_tree tree rules) (kind_at tree object) (path_at tree object) there
gained_some tree rules object there set lacks_here lacks_there listed inside within here_is there_is is =
    let layer = in_tree tree rules in
    let counts : FsRight → Bool = λ right. is_dir (kind_at tree object) || is_file_right right in
    some_agree (has set) (λ right. granted layer there right && (handles layer right && counts right) && not (granted layer (path_at tree object) right))
    (λ right.
    is right
    ∙ ap (λ (b : Bool). ((b && not (has lacks_there right)) && counts right) && not (granted_on_node rules object right)) (here_is right)
    ∙ ap (λ (b : Bool). (((handles rules right && not (granted layer (front (path_at tree object)) right)) && not b) && counts right)
    && not (granted_on_node rules object right)) (there_is right)
    ∙ gained_bool (handles rules right) (granted layer (front (path_at tree object)) right) (granted layer there right) (counts right)
    (granted_on_node rules object right)
    ∙ ap (λ (b : Bool). granted layer there right && (handles rules right && counts right) && not b)
    (sym (granted_with tree rules object right listed inside within)))

some_none : some_right (λ right. false) ≡ false
unfolding some_right all_rights files.named_rights
some_none = refl

pub none_some : (set : Fs) → ((right : FsRight) → has set right ≡ false) → some_right (has set) ≡ false
none_some set none = some_agree (has set) (λ right. false) none ∙ some_none

pub either_some : (set first second : Fs) (a b : Bool) → ((right : FsRight) → has set right ≡ (has first right || has second right))
    → some_right (has first) ≡ a → some_right (has second) ≡ b → some_right (has set) ≡ (a || b)
either_some set first second a b is first_is second_is =
    some_agree (has set) (λ right. has first right || has second right) is ∙ some_or (has first) (has second)
    ∙ ap (λ (x : Bool). x || some_right (has second)) first_is ∙ ap (λ (y : Bool). a || y) second_is

-- in an exchange the other object goes to the source
pub other_some : (tree : List Entry) (move : Move) (rules : RulesOn ℕ) (there : NodeId) (set lacks_source lacks_destination : Fs) → move.how ≡ Exchange
    → move.target ≡ Over there → IsTree tree → IsTargetIn tree move.target → AreInTree tree rules
    → ((right : FsRight) → has lacks_source right ≡ (handles rules right && not (granted (in_tree tree rules) (source_of tree move) right)))
    → ((right : FsRight) → has lacks_destination right ≡ (handles rules right && not (granted (in_tree tree rules) (destination_of tree move.target) right)))
    → ((right : FsRight)
    → has set right ≡ (((has lacks_destination right && not (has lacks_source right)) && (is_dir (kind_at tree there) || is_file_right right))
    && not (granted_on_node rules there right)))
    → some_right (has set) ≡ other_gains tree move (in_tree tree rules) move.how move.target
other_some tree move rules there set lacks_source lacks_destination exchanged over listed inside within source_is destination_is is =
    let named : IsNode tree there = subst (IsTargetIn tree) over inside in
    let here : (right : FsRight) → has lacks_destination right
    ≡ (handles rules right && not (granted (in_tree tree rules) (front (path_at tree there)) right)) =
    subst (λ (target : Target). (right : FsRight)
    → has lacks_destination right ≡ (handles rules right && not (granted (in_tree tree rules) (destination_of tree target) right))) over destination_is in
    gained_some tree rules there (source_of tree move) set lacks_destination lacks_source listed named within here source_is is
    ∙ sym (ap (λ (how : How). other_gains tree move (in_tree tree rules) how move.target) exchanged
    ∙ ap (λ (target : Target). other_gains tree move (in_tree tree rules) Exchange target) over)

-- with nothing there already nothing else gains
pub other_none : (tree : List Entry) (move : Move) (layer : RulesOn Path) (set : Fs) (directory : NodeId) → move.how ≡ Exchange → move.target ≡ New directory
    → ((right : FsRight) → has set right ≡ false) → some_right (has set) ≡ other_gains tree move layer move.how move.target
other_none tree move layer set directory exchanged new none =
    none_some set none ∙ sym (ap (λ (how : How). other_gains tree move layer how move.target) exchanged
    ∙ ap (λ (target : Target). other_gains tree move layer Exchange target) new)

pub other_still : (tree : List Entry) (move : Move) (layer : RulesOn Path) (set : Fs) → (move.how ≡ Rename) ⊎ (move.how ≡ Link)
    → ((right : FsRight) → has set right ≡ false) → some_right (has set) ≡ other_gains tree move layer move.how move.target
other_still tree move layer set (inl renamed) none = none_some set none ∙ sym (ap (λ (how : How). other_gains tree move layer how move.target) renamed)
other_still tree move layer set (inr linked) none = none_some set none ∙ sym (ap (λ (how : How). other_gains tree move layer how move.target) linked)

-- ---- the layers that deny a move, and those that keep it back

none_gained : (granted_there granted_here counts : FsRight → Bool)
    → is_lacking granted_there (λ right. handles (without_rules {P = Path} files.no_right network.no_right) right && counts right) granted_here ≡ false
none_gained granted_there granted_here counts =
    some_agree (λ right. granted_there right && (handles (without_rules {P = Path} files.no_right network.no_right) right && counts right)
    && not (granted_here right)) (λ right. false)
    (λ right. ap (λ (b : Bool). granted_there right && (b && counts right) && not (granted_here right)) (nothing_handled Path right)
    ∙ ap (λ (b : Bool). b && not (granted_here right)) (and_none (granted_there right)))
    ∙ some_none

none_other : (tree : List Entry) (move : Move) (how : How) (target : Target)
    → other_gains tree move (without_rules files.no_right network.no_right) how target ≡ false
none_other tree move Exchange (Over there) = none_gained _ _ _
none_other tree move Exchange (New directory) = refl
none_other tree move Rename target = refl
none_other tree move Link target = refl

none_denies : (tree : List Entry) (move : Move) → denies tree move (without_rules files.no_right network.no_right) ≡ false
none_denies tree move =
    ap (λ (b : Bool). b || lacks_one_of (without_rules files.no_right network.no_right) (destination_of tree move.target)
    (asked_of_destination (kind_at tree move.moved) (kind_there tree move.target))) (none_lacking _ _)
    ∙ none_lacking _ _

none_holds_back : (tree : List Entry) (move : Move) → holds_back tree move (without_rules files.no_right network.no_right) ≡ false
none_holds_back tree move = none_of_four (none_lacking _ _) (none_lacking _ _) (none_gained _ _ _) (none_other tree move move.how move.target) where
  none_of_four : {a b c d : Bool} → a ≡ false → b ≡ false → c ≡ false → d ≡ false → ((a || b) || (c || d)) ≡ false
  none_of_four p q r s = rw (p, q, r, s) refl

module _ (tree : List Entry) (move : Move) (layers : List (RulesOn ℕ)) (ids : List LayerId) (few : length ids ≤ MOST_LAYERS) (lanes : List ℕ) where
  pub denied_numbers : (source destination : Path) (at_source at_destination : List ℕ) (from to : Fs) → source ≡ source_of tree move
      → destination ≡ destination_of tree move.target
      → AreLacking tree (domain_of layers ids) source at_source → AreLacking tree (domain_of layers ids) destination at_destination
      → ((right : FsRight) → has from right ≡ list_any (is_right right) (asked_of_source move.how (kind_at tree move.moved) (kind_there tree move.target)))
      → ((right : FsRight) → has to right ≡ list_any (is_right right) (asked_of_destination (kind_at tree move.moved) (kind_there tree move.target)))
      → ((index : ℕ) (right : FsRight) → has (lane lanes index) right
      ≡ ((has (lane at_source index) right && has from right) || (has (lane at_destination index) right && has to right)))
      → numbers_passing (is_filled lanes) ≡ numbers_where (denies tree move) (all_in_tree tree (domain_of layers ids))
  denied_numbers source destination at_source at_destination from to source_is destination_is lacks_here lacks_there from_is to_is is =
      let here : AreLacking tree (domain_of layers ids) (source_of tree move) at_source =
      subst (λ (path : Path). AreLacking tree (domain_of layers ids) path at_source) source_is lacks_here in
      let there : AreLacking tree (domain_of layers ids) (destination_of tree move.target) at_destination =
      subst (λ (path : Path). AreLacking tree (domain_of layers ids) path at_destination) destination_is lacks_there in
      filled_in_tree tree lanes layers ids (denies tree move) few (none_denies tree move)
      (λ index.
      denied_some (in_tree tree (layer_in (domain_of layers ids) index)) (source_of tree move) (destination_of tree move.target) (has (lane at_source index))
      (has (lane at_destination index)) (here index) (there index) (lane lanes index) from to _ _ from_is to_is (is index))

  pub held_numbers : ((index : ℕ) → some_right (has (lane lanes index)) ≡ holds_back tree move (in_tree tree (layer_in (domain_of layers ids) index)))
      → numbers_passing (is_filled lanes) ≡ numbers_where (holds_back tree move) (all_in_tree tree (domain_of layers ids))
  held_numbers same = filled_in_tree tree lanes layers ids (holds_back tree move) few (none_holds_back tree move) same

-- ---- look-ups

-- those of two climbs, and of at most two for each layer more
pub move_look_ups : (tree : List Entry) (source destination : NodeId) (from to : Path) (layers climbs now : ℕ) → path_at tree source ≡ from
    → path_at tree destination ≡ to
    → climbs ≤ layers * (depth_at tree source + 1 + (depth_at tree destination + 1)) → now ≤ climbs + layers * 2
    → now ≤ layers * (length from + 1 + (length to + 1) + 2)
unfolding depth_at
move_look_ups tree source destination from to layers climbs now from_is to_is bound more =
    let both : climbs ≤ layers * (length from + 1 + (length to + 1)) = rw (← from_is, ← to_is) bound in
    omega arith
