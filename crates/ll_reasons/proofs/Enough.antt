-- With rules that grant what is named, a layer no longer lacks it.
use Rattle.std.proofs.Common.{◌≡◌, ℕ, ◌==◌, Bool, true, false, not, ◌&&◌, ◌||◌, List, [], ◌∷◌, ◌++◌, refl, sym, ap, ◌∙◌, subst, if◌then◌else◌}
use Rattle.std.specs.List.{list_any}
use Rattle.std.proofs.lemmas.Bool.{eq-eqb}
use Rattle.std.proofs.lemmas.List.Folds.{list_any-append}
use Rattle.ll_rights.specs.declared.fs.Fs.{Fs}
use Rattle.ll_rights.specs.declared.net.Net.{Net}
use Rattle.ll_rights.specs.Rights.{FsRight, refer, is_right}
use Rattle.ll_rights.specs.Rights as files
use Rattle.ll_rights.specs.NetRights as network
use Rattle.ll_rights.proofs.Sets.{fs_has-only, fs_has-united, net_has-only, net_has-united}
use Rattle.ll_rules.proofs.RightSets.{has_nothing}
use Rattle.ll_lines.specs.Paths.{Path, path_eq, is_prefix}
use Rattle.ll_tree.specs.Trees.{Entry, kind_at}
use Rattle.ll_tree.proofs.Positions.{same_path}
use Rattle.ll_rules.specs.declared.moves.Move.{Move}
use Rattle.ll_rules.specs.Layers.{handles, granted, granted_on_port}
use Rattle.ll_rules.specs.Checks.{lacks, lacks_on_port}
use Rattle.ll_rules.specs.Moves.{source_of, destination_of, kind_there, asked_of_source, asked_of_destination, lacks_one_of, denies}
use Rattle.ll_rules.proofs.Booleans.{or_assoc, or_false, and_none}
use Rattle.ll_rules.proofs.Climbs.{prefix-same}
use Rattle.ll_semantics.specs.States.{Layer}
use Rattle.ll_reasons.specs.Objections.{Objection, missing, closed, gained, mounting, kept, missing_rights, closed_rights, one_of, if_any, on_path, on_port}
use Rattle.ll_reasons.specs.Objections.{on_directories}
use Rattle.ll_reasons.specs.Remedies.{set_of, port_set_of, satisfied, all_satisfied}
use Rattle.ll_reasons.proofs.Named.{rights_named, port_rights_named}

-- ---- Booleans

pub or_left : (a b : Bool) → a ≡ true → (a || b) ≡ true
or_left true b holds = refl
or_left false b holds = cc

pub or_right : (a b : Bool) → b ≡ true → (a || b) ≡ true
or_right true b holds = refl
or_right false b holds = holds

pub or_either : {P : Type 0} (a b : Bool) → (a || b) ≡ true → (a ≡ true → P) → (b ≡ true → P) → P
or_either true b holds this that = this refl
or_either false b holds this that = that holds

pub and_both : (a b : Bool) → (a && b) ≡ true → (a ≡ true) × (b ≡ true)
and_both true b holds = (refl, holds)
and_both false b holds = cc

pub and_from : (a b : Bool) → a ≡ true → b ≡ true → (a && b) ≡ true
and_from true b this that = that
and_from false b this that = cc

pub from_not : (b : Bool) → b ≡ false → not b ≡ true
from_not true fails = cc
from_not false fails = refl

-- what is handled, asked and not granted was so before, and is granted by now
none_left : (a h g v : Bool) → ((a && h && not g) ≡ true → v ≡ true) → (a && h && not (v || g)) ≡ false
none_left false h g v so = refl
none_left true false g v so = refl
none_left true true true true so = refl
none_left true true true false so = refl
none_left true true false true so = refl
none_left true true false false so = (let both : false ≡ true = so refl in cc)

pub any_none : {X : Type 0} (f : X → Bool) → ((x : X) → f x ≡ false) → (xs : List X) → list_any f xs ≡ false
any_none f none [] = refl
any_none f none (x ∷ xs) = rw (none x) (any_none f none xs)

pub any_more : {X : Type 0} (f g : X → Bool) → ((x : X) → f x ≡ true → g x ≡ true) → (xs : List X) → list_any f xs ≡ true → list_any g xs ≡ true
any_more f g so [] some = some
any_more f g so (x ∷ xs) some = or_either (f x) (list_any f xs) some
    (λ here. or_left (g x) (list_any g xs) (so x here))
    (λ later. or_right (g x) (list_any g xs) (any_more f g so xs later))

-- ---- sets of rights

has-set_of : (rights : List FsRight) (right : FsRight) → files.has (set_of rights) right ≡ one_of rights right
unfolding set_of
has-set_of [] right = has_nothing right
has-set_of (one ∷ rights) right =
    fs_has-united (files.only one) (set_of rights) right
    ∙ rw (fs_has-only right one, has-set_of rights right) refl

has_no_port : (right : network.NetRight) → network.has network.no_right right ≡ false
unfolding network.has
has_no_port network.other = refl
has_no_port right = refl

has-port_set_of : (rights : List network.NetRight) (right : network.NetRight)
    → network.has (port_set_of rights) right ≡ list_any (network.is_right right) rights
unfolding port_set_of
has-port_set_of [] right = has_no_port right
has-port_set_of (one ∷ rights) right =
    net_has-united (network.only one) (port_set_of rights) right
    ∙ rw (net_has-only right one, has-port_set_of rights right) refl

-- ---- what the rules grant

-- the rule for an objection grants a right on a path
unfoldable pub gives : Path → FsRight → Objection → Bool
gives path right (missing rights there) = is_prefix there path && one_of rights right
gives path right (closed rights port) = false
gives path right (gained object rights directory) = is_prefix object path && one_of rights right
gives path right mounting = false
gives path right (kept one index) = false

gives_on_port : ℕ → network.NetRight → Objection → Bool
gives_on_port port right (missing rights there) = false
gives_on_port port right (closed rights there) = (port == there) && list_any (network.is_right right) rights
gives_on_port port right (gained object rights directory) = false
gives_on_port port right mounting = false
gives_on_port port right (kept one index) = false

one_rule_more : (p : Bool) (h v g : Bool) → ((p && h) || (v || g)) ≡ (((p && h) || v) || g)
one_rule_more p h v g = sym (or_assoc (p && h) v g)

pub granted-satisfied : (objections : List Objection) (layer : Layer) (path : Path) (right : FsRight)
    → granted (all_satisfied layer objections) path right ≡ (list_any (gives path right) objections || granted layer path right)
unfolding all_satisfied satisfied gives granted
granted-satisfied [] layer path right = refl
granted-satisfied (missing rights there ∷ objections) layer path right =
    rw (has-set_of rights right, granted-satisfied objections layer path right)
    (one_rule_more (is_prefix there path) (one_of rights right) (list_any (gives path right) objections) (granted layer path right))
granted-satisfied (gained object rights directory ∷ objections) layer path right =
    rw (has-set_of rights right, granted-satisfied objections layer path right)
    (one_rule_more (is_prefix object path) (one_of rights right) (list_any (gives path right) objections) (granted layer path right))
granted-satisfied (closed rights port ∷ objections) layer path right = granted-satisfied objections layer path right
granted-satisfied (mounting ∷ objections) layer path right = granted-satisfied objections layer path right
granted-satisfied (kept one index ∷ objections) layer path right = granted-satisfied objections layer path right

granted_on_port-satisfied : (objections : List Objection) (layer : Layer) (port : ℕ) (right : network.NetRight)
    → granted_on_port (all_satisfied layer objections) port right ≡ (list_any (gives_on_port port right) objections || granted_on_port layer port right)
unfolding all_satisfied satisfied gives_on_port granted_on_port
granted_on_port-satisfied [] layer port right = refl
granted_on_port-satisfied (missing rights there ∷ objections) layer port right = granted_on_port-satisfied objections layer port right
granted_on_port-satisfied (gained object rights directory ∷ objections) layer port right = granted_on_port-satisfied objections layer port right
granted_on_port-satisfied (closed rights there ∷ objections) layer port right =
    rw (has-port_set_of rights right, granted_on_port-satisfied objections layer port right)
    (one_rule_more (port == there) (list_any (network.is_right right) rights) (list_any (gives_on_port port right) objections)
    (granted_on_port layer port right))
granted_on_port-satisfied (mounting ∷ objections) layer port right = granted_on_port-satisfied objections layer port right
granted_on_port-satisfied (kept one index ∷ objections) layer port right = granted_on_port-satisfied objections layer port right

handled-satisfied : (objections : List Objection) (layer : Layer)
    → ((all_satisfied layer objections).handled_files ≡ layer.handled_files) × ((all_satisfied layer objections).handled_network ≡ layer.handled_network)
unfolding all_satisfied satisfied
handled-satisfied [] layer = (refl, refl)
handled-satisfied (missing rights there ∷ objections) layer = handled-satisfied objections layer
handled-satisfied (gained object rights directory ∷ objections) layer = handled-satisfied objections layer
handled-satisfied (closed rights there ∷ objections) layer = handled-satisfied objections layer
handled-satisfied (mounting ∷ objections) layer = handled-satisfied objections layer
handled-satisfied (kept one index ∷ objections) layer = handled-satisfied objections layer

handles-same : (a b : Layer) (right : FsRight) → a.handled_files ≡ b.handled_files → handles a right ≡ handles b right
handles-same a b refer same = ap (λ (set : Fs). not (files.is_empty set)) same
handles-same a b right same = ap (λ (set : Fs). files.has set right) same

pub handles-satisfied : (objections : List Objection) (layer : Layer) (right : FsRight) → handles (all_satisfied layer objections) right ≡ handles layer right
handles-satisfied objections layer right = handles-same (all_satisfied layer objections) layer right (handled-satisfied objections layer).0

-- ---- enough, where each right that is lacking is given

pub covered : (layer : Layer) (objections : List Objection) (path : Path) (asked : FsRight → Bool)
    → ((right : FsRight) → (asked right && handles layer right && not (granted layer path right)) ≡ true → list_any (gives path right) objections ≡ true)
    → files.is_lacking asked (handles (all_satisfied layer objections)) (granted (all_satisfied layer objections) path) ≡ false
unfolding files.some_right
covered layer objections path asked given =
    any_none (λ right. asked right && handles (all_satisfied layer objections) right && not (granted (all_satisfied layer objections) path right))
    (λ right. rw (handles-satisfied objections layer right, granted-satisfied objections layer path right)
    (none_left (asked right) (handles layer right) (granted layer path right) (list_any (gives path right) objections) (given right)))
    files.all_rights

gives-if_any : (rights : List FsRight) (there path : Path) (right : FsRight)
    → list_any (gives path right) (if_any rights (missing rights there)) ≡ (is_prefix there path && one_of rights right)
unfolding gives
gives-if_any [] there path right = sym (and_none (is_prefix there path))
gives-if_any (one ∷ rights) there path right = or_false (is_prefix there path && one_of (one ∷ rights) right)

-- what the rule for what is missing on a path grants
pub gives-on_path : (there path : Path) (asked : FsRight → Bool) (layer : Layer) (right : FsRight)
    → list_any (gives path right) (on_path there asked layer)
    ≡ (is_prefix there path && (asked right && handles layer right && not (granted layer there right)))
unfolding on_path
gives-on_path there path asked layer right =
    gives-if_any (missing_rights layer there asked) there path right
    ∙ ap (λ (b : Bool). is_prefix there path && b) (rights_named (λ right. asked right && handles layer right && not (granted layer there right)) right)

pub given_there : (path : Path) (asked : FsRight → Bool) (layer : Layer) (right : FsRight)
    → (asked right && handles layer right && not (granted layer path right)) ≡ true → list_any (gives path right) (on_path path asked layer) ≡ true
given_there path asked layer right lacking = gives-on_path path path asked layer right ∙ and_from (is_prefix path path) _ (prefix-same path) lacking

pub path_enough : (layer : Layer) (path : Path) (wanted : Fs) → lacks (all_satisfied layer (on_path path (files.has wanted) layer)) path wanted ≡ false
path_enough layer path wanted =
    covered layer (on_path path (files.has wanted) layer) path (files.has wanted) (λ right lacking. given_there path (files.has wanted) layer right lacking)

-- ---- ports

gives_on_port-if_any : (rights : List network.NetRight) (port : ℕ) (right : network.NetRight)
    → list_any (gives_on_port port right) (if_any rights (closed rights port)) ≡ ((port == port) && list_any (network.is_right right) rights)
unfolding gives_on_port
gives_on_port-if_any [] port right = sym (and_none (port == port))
gives_on_port-if_any (one ∷ rights) port right = or_false ((port == port) && list_any (network.is_right right) (one ∷ rights))

gives-on_port : (port : ℕ) (wanted : Net) (layer : Layer) (right : network.NetRight)
    → (network.has wanted right && network.has layer.handled_network right && not (granted_on_port layer port right)) ≡ true
    → list_any (gives_on_port port right) (on_port port wanted layer) ≡ true
unfolding on_port
gives-on_port port wanted layer right lacking =
    gives_on_port-if_any (closed_rights layer port (network.has wanted)) port right
    ∙ and_from (port == port) _ (eq-eqb port port refl) (port_rights_named
    (λ right. network.has wanted right && network.has layer.handled_network right && not (granted_on_port layer port right)) right ∙ lacking)

pub port_enough : (layer : Layer) (port : ℕ) (wanted : Net) → lacks_on_port (all_satisfied layer (on_port port wanted layer)) port wanted ≡ false
unfolding network.some_right
port_enough layer port wanted =
    let objections : List Objection = on_port port wanted layer in
    any_none (λ right. network.has wanted right && network.has (all_satisfied layer objections).handled_network right
    && not (granted_on_port (all_satisfied layer objections) port right))
    (λ right. rw (granted_on_port-satisfied objections layer port right, (handled-satisfied objections layer).1)
    (none_left (network.has wanted right) (network.has layer.handled_network right) (granted_on_port layer port right)
    (list_any (gives_on_port port right) objections) (gives-on_port port wanted layer right)))
    network.all_rights

-- ---- the two directories of a move

weaker : (a b h n : Bool) → (a ≡ true → b ≡ true) → (a && h && n) ≡ true → (b && h && n) ≡ true
weaker a b h n so holds =
    let outer = and_both (a && h) n holds in
    let inner = and_both a h outer.0 in
    and_from (b && h) n (and_from b h (so inner.0) inner.1) outer.1

directories : (layer : Layer) (a b : Path) (xs ys : List FsRight) (one : Bool) → path_eq a b ≡ one
    → (objections : List Objection)
    → objections ≡ (if one then on_path a (one_of (xs ++ ys)) layer else on_path a (one_of xs) layer ++ on_path b (one_of ys) layer)
    → (lacks_one_of (all_satisfied layer objections) a xs || lacks_one_of (all_satisfied layer objections) b ys) ≡ false
directories layer a b xs ys true same objections is = rw (
  covered layer objections a (one_of xs) (λ right lacking. ap (λ (os : List Objection). list_any (gives a right) os) is
      ∙ given_there a (one_of (xs ++ ys)) layer right
      (weaker (one_of xs right) (one_of (xs ++ ys) right) (handles layer right) (not (granted layer a right))
      (λ asked. list_any-append (is_right right) xs ys ∙ or_left (one_of xs right) (one_of ys right) asked) lacking)),
  covered layer objections b (one_of ys) (λ right lacking. ap (λ (os : List Objection). list_any (gives b right) os) is
      ∙ subst (λ (path : Path). list_any (gives path right) (on_path a (one_of (xs ++ ys)) layer) ≡ true) (same_path a b same)
      (given_there a (one_of (xs ++ ys)) layer right
      (weaker (one_of ys right) (one_of (xs ++ ys) right) (handles layer right) (not (granted layer a right))
      (λ asked. list_any-append (is_right right) xs ys ∙ or_right (one_of xs right) (one_of ys right) asked)
      (subst (λ (path : Path). (one_of ys right && handles layer right && not (granted layer path right)) ≡ true) (sym (same_path a b same)) lacking)))),
) refl
directories layer a b xs ys false other objections is =
    let first : List Objection = on_path a (one_of xs) layer in
    let second : List Objection = on_path b (one_of ys) layer in
    rw (
      covered layer objections a (one_of xs) (λ right lacking. ap (λ (os : List Objection). list_any (gives a right) os) is
          ∙ list_any-append (gives a right) first second
          ∙ or_left (list_any (gives a right) first) (list_any (gives a right) second) (given_there a (one_of xs) layer right lacking)),
      covered layer objections b (one_of ys) (λ right lacking. ap (λ (os : List Objection). list_any (gives b right) os) is
          ∙ list_any-append (gives b right) first second
          ∙ or_right (list_any (gives b right) first) (list_any (gives b right) second) (given_there b (one_of ys) layer right lacking)),
    ) refl

pub directories_enough : (tree : List Entry) (move : Move) (layer : Layer) → denies tree move (all_satisfied layer (on_directories tree move layer)) ≡ false
unfolding on_directories
directories_enough tree move layer =
    directories layer (source_of tree move) (destination_of tree move.target)
    (asked_of_source move.how (kind_at tree move.moved) (kind_there tree move.target))
    (asked_of_destination (kind_at tree move.moved) (kind_there tree move.target))
    (path_eq (source_of tree move) (destination_of tree move.target)) refl (on_directories tree move layer) refl
