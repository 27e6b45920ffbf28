-- Layers that are the same grant the same, refuse the same, and stay the same with one rule more.
use Rattle.std.proofs.Common.{◌≡◌, ℕ, zero, suc, ◌+◌, ◌≤◌, Bool, not, ◌&&◌, ◌||◌, eqb, List, [], ◌∷◌, length, refl, sym, ap, ◌∙◌, arith}
use Rattle.std.specs.List.{list_any, AllZip}
use Rattle.ll_rights.specs.declared.fs.Fs.{Fs}
use Rattle.ll_rights.specs.declared.net.Net.{Net}
use Rattle.ll_rights.specs.declared.kind.Kind.{Kind}
use Rattle.ll_rights.specs.Rights as files
use Rattle.ll_rights.specs.Rights.{FsRight, has, refer, is_file_right, is_right}
use Rattle.ll_rights.specs.NetRights as network
use Rattle.ll_lines.specs.Paths.{Path, front, path_eq}
use Rattle.ll_tree.specs.Trees.{Entry, path_at, kind_at, is_dir}
use Rattle.ll_rules.specs.declared.moves.Move.{Move}
use Rattle.ll_rules.specs.declared.moves.How.{How}
use Rattle.ll_rules.specs.declared.moves.How.TheVariants.{Rename, Exchange, Link}
use Rattle.ll_rules.specs.declared.moves.Target.{Target}
use Rattle.ll_rules.specs.declared.moves.Target.TheVariants.{New, Over}
use Rattle.ll_rules.specs.Layers.{RulesOn, with_file_rule, with_port_rule, handles, granted, granted_on_port}
use Rattle.ll_rules.specs.KeptLayers.{granted_on, SameRules, GrantsOnPort}
use Rattle.ll_rules.specs.InTree.{in_tree, all_in_tree}
use Rattle.ll_rules.specs.Checks.{numbers_from, lacks, refusing, lacks_on_port, refusing_port, refusing_mount}
use Rattle.ll_rules.specs.Moves.{lacks_one_of, gains, other_gains, denies, holds_back, source_of, destination_of, kind_there, asked_of_source}
use Rattle.ll_rules.specs.Moves.{asked_of_destination, move_verdict}
use Rattle.ll_rules.proofs.Climbs.{granted-split, granted-root}
use Rattle.ll_rules.proofs.AskedRights.{some_agree}
use Rattle.ll_rules.proofs.Domains.{numbers_from-map}
use Rattle.ll_rules.proofs.Booleans.{list_any-agree}

-- ---- one layer

pub SameRules-refl : (a : RulesOn Path) → SameRules a a
SameRules-refl a = record { same_files = refl; same_network = refl; same_on = λ path right. refl; same_on_port = λ port right. refl }

pub SameRules-sym : (a b : RulesOn Path) → SameRules a b → SameRules b a
SameRules-sym a b same = record {
  same_files = sym same.same_files;
  same_network = sym same.same_network;
  same_on = λ path right. sym (same.same_on path right);
  same_on_port = λ port right. sym (same.same_on_port port right);
}

pub SameRules-trans : (a b c : RulesOn Path) → SameRules a b → SameRules b c → SameRules a c
SameRules-trans a b c first second = record {
  same_files = first.same_files ∙ second.same_files;
  same_network = first.same_network ∙ second.same_network;
  same_on = λ path right. first.same_on path right ∙ second.same_on path right;
  same_on_port = λ port right. first.same_on_port port right ∙ second.same_on_port port right;
}

pub SameRules-with_file_rule : (a b : RulesOn Path) (place : Path) (set : Fs) → SameRules a b
    → SameRules (with_file_rule a place set) (with_file_rule b place set)
unfolding granted_on granted_on_port
SameRules-with_file_rule a b place set same = record {
  same_files = same.same_files;
  same_network = same.same_network;
  same_on = λ path right. ap (λ (rest : Bool). (path_eq place path && has set right) || rest) (same.same_on path right);
  same_on_port = λ port right. same.same_on_port port right;
}

pub SameRules-with_port_rule : (a b : RulesOn Path) (port : ℕ) (set : Net) → SameRules a b → SameRules (with_port_rule a port set) (with_port_rule b port set)
unfolding granted_on granted_on_port
SameRules-with_port_rule a b port set same = record {
  same_files = same.same_files;
  same_network = same.same_network;
  same_on = λ path right. same.same_on path right;
  same_on_port = λ other right. ap (λ (rest : Bool). (eqb other port && network.has set right) || rest) (same.same_on_port other right);
}

-- rules on nodes with one rule for a port more, in a tree
pub SameRules-from_port : (tree : List Entry) (old new : RulesOn ℕ) (port : ℕ) (set : Net) → GrantsOnPort old new port set
    → SameRules (in_tree tree new) (with_port_rule (in_tree tree old) port set)
unfolding granted_on granted_on_port
SameRules-from_port tree old new port set more = record {
  same_files = more.kept_files;
  same_network = more.kept_network;
  same_on = λ path right. rw more.kept_rules refl;
  same_on_port = λ other right. more.grants other right;
}

length-front : (first : List ℕ) (others : Path) → length (front (first ∷ others)) ≡ length others
unfolding front
length-front first [] = refl
length-front first (next ∷ others) = ap suc (length-front next others)

granted_within : (a b : RulesOn Path) → SameRules a b → (bound : ℕ) (path : Path) (right : FsRight) → length path ≤ bound
    → granted a path right ≡ granted b path right
granted_within a b same bound [] right within = granted-root a right ∙ same.same_on [] right ∙ sym (granted-root b right)
granted_within a b same zero (first ∷ others) right within = absurd (omega arith)
granted_within a b same (suc bound) (first ∷ others) right within =
    let shorter : length (front (first ∷ others)) ≤ bound = omega (arith, length-front first others) in
    granted-split a first others right
    ∙ ap (λ (here : Bool). here || granted a (front (first ∷ others)) right) (same.same_on (first ∷ others) right)
    ∙ ap (λ (above : Bool). granted_on b (first ∷ others) right || above) (granted_within a b same bound (front (first ∷ others)) right shorter)
    ∙ sym (granted-split b first others right)

-- on every path, with what is above it
pub granted-same : (a b : RulesOn Path) → SameRules a b → (path : Path) (right : FsRight) → granted a path right ≡ granted b path right
granted-same a b same path right = granted_within a b same (length path) path right (omega arith)

pub handles-same : (a b : RulesOn Path) → SameRules a b → (right : FsRight) → handles a right ≡ handles b right
handles-same a b same refer = ap (λ (set : Fs). not (files.is_empty set)) same.same_files
handles-same a b same right = ap (λ (set : Fs). has set right) same.same_files

is_lacking-same : (wanted other handled again given also : FsRight → Bool) → ((right : FsRight) → wanted right ≡ other right)
    → ((right : FsRight) → handled right ≡ again right) → ((right : FsRight) → given right ≡ also right)
    → files.is_lacking wanted handled given ≡ files.is_lacking other again also
is_lacking-same wanted other handled again given also first second third =
    some_agree (λ right. wanted right && handled right && not (given right)) (λ right. other right && again right && not (also right))
    (λ right. rw (first right, second right, third right) refl)

pub lacks-same : (a b : RulesOn Path) → SameRules a b → (path : Path) (wanted : Fs) → lacks a path wanted ≡ lacks b path wanted
lacks-same a b same path wanted =
    is_lacking-same (has wanted) (has wanted) (handles a) (handles b) (granted a path) (granted b path) (λ right. refl) (handles-same a b same)
    (granted-same a b same path)

net_agree : (f g : network.NetRight → Bool) → ((right : network.NetRight) → f right ≡ g right) → network.some_right f ≡ network.some_right g
unfolding network.some_right
net_agree f g same = list_any-agree f g same network.all_rights

pub lacks_on_port-same : (a b : RulesOn Path) → SameRules a b → (port : ℕ) (wanted : Net) → lacks_on_port a port wanted ≡ lacks_on_port b port wanted
lacks_on_port-same a b same port wanted =
    net_agree (λ right. network.has wanted right && network.has a.handled_network right && not (granted_on_port a port right))
    (λ right. network.has wanted right && network.has b.handled_network right && not (granted_on_port b port right))
    (λ right.
    ap (λ (set : Net). network.has wanted right && network.has set right && not (granted_on_port a port right)) same.same_network
    ∙ ap (λ (given : Bool). network.has wanted right && network.has b.handled_network right && not given) (same.same_on_port port right))

lacks_one_of-same : (a b : RulesOn Path) → SameRules a b → (path : Path) (asked : List FsRight) → lacks_one_of a path asked ≡ lacks_one_of b path asked
lacks_one_of-same a b same path asked =
    is_lacking-same (λ right. list_any (is_right right) asked) (λ right. list_any (is_right right) asked) (handles a) (handles b) (granted a path)
    (granted b path) (λ right. refl) (handles-same a b same) (granted-same a b same path)

gains-same : (a b : RulesOn Path) → SameRules a b → (kind : Kind) (object directory : Path) → gains a kind object directory ≡ gains b kind object directory
gains-same a b same kind object directory =
    is_lacking-same (granted a directory) (granted b directory) (λ right. handles a right && (is_dir kind || is_file_right right))
    (λ right. handles b right && (is_dir kind || is_file_right right)) (granted a object) (granted b object)
    (granted-same a b same directory) (λ right. ap (λ (own : Bool). own && (is_dir kind || is_file_right right)) (handles-same a b same right))
    (granted-same a b same object)

other_gains-same : (tree : List Entry) (move : Move) (a b : RulesOn Path) → SameRules a b → (how : How) (target : Target)
    → other_gains tree move a how target ≡ other_gains tree move b how target
other_gains-same tree move a b same Exchange (Over there) = gains-same a b same (kind_at tree there) (path_at tree there) (source_of tree move)
other_gains-same tree move a b same Exchange (New directory) = refl
other_gains-same tree move a b same Rename target = refl
other_gains-same tree move a b same Link target = refl

denies-same : (tree : List Entry) (move : Move) (a b : RulesOn Path) → SameRules a b → denies tree move a ≡ denies tree move b
denies-same tree move a b same =
    let moved = kind_at tree move.moved in
    let there = kind_there tree move.target in
    rw (
      lacks_one_of-same a b same (source_of tree move) (asked_of_source move.how moved there),
      lacks_one_of-same a b same (destination_of tree move.target) (asked_of_destination moved there),
    ) refl

holds_back-same : (tree : List Entry) (move : Move) (a b : RulesOn Path) → SameRules a b → holds_back tree move a ≡ holds_back tree move b
holds_back-same tree move a b same = rw (
  lacks_one_of-same a b same (source_of tree move) (refer ∷ []),
  lacks_one_of-same a b same (destination_of tree move.target) (refer ∷ []),
  gains-same a b same (kind_at tree move.moved) (path_at tree move.moved) (destination_of tree move.target),
  other_gains-same tree move a b same move.how move.target,
)
    refl

-- ---- domains, layer by layer

numbers_from-same : {A B : Type 0} (R : A → B → Type 0) (t : A → Bool) (u : B → Bool) → ((a : A) (b : B) → R a b → t a ≡ u b)
    → (number : ℕ) (xs : List A) (ys : List B) → AllZip R xs ys → numbers_from t number xs ≡ numbers_from u number ys
unfolding numbers_from
numbers_from-same R t u agree number [] [] both = refl
numbers_from-same R t u agree number [] (y ∷ ys) both = absurd both
numbers_from-same R t u agree number (x ∷ xs) [] both = absurd both
numbers_from-same R t u agree number (x ∷ xs) (y ∷ ys) both =
    rw (agree x y both.0, numbers_from-same R t u agree (number + 1) xs ys both.1) refl

pub refusing-same : (a b : List (RulesOn Path)) → AllZip SameRules a b → (path : Path) (wanted : Fs) → refusing a path wanted ≡ refusing b path wanted
refusing-same a b same path wanted =
    numbers_from-same SameRules (λ layer. lacks layer path wanted) (λ layer. lacks layer path wanted)
    (λ one other alike. lacks-same one other alike path wanted) 1 a b same

pub refusing_port-same : (a b : List (RulesOn Path)) → AllZip SameRules a b → (port : ℕ) (wanted : Net)
    → refusing_port a port wanted ≡ refusing_port b port wanted
refusing_port-same a b same port wanted =
    numbers_from-same SameRules (λ layer. lacks_on_port layer port wanted) (λ layer. lacks_on_port layer port wanted)
    (λ one other alike. lacks_on_port-same one other alike port wanted) 1 a b same

pub refusing_mount-same : (a b : List (RulesOn Path)) → AllZip SameRules a b → refusing_mount a ≡ refusing_mount b
refusing_mount-same a b same =
    numbers_from-same SameRules (λ layer. not (files.is_empty layer.handled_files)) (λ layer. not (files.is_empty layer.handled_files))
    (λ one other alike. ap (λ (set : Fs). not (files.is_empty set)) alike.same_files) 1 a b same

pub move_verdict-same : (tree : List Entry) (a b : List (RulesOn Path)) → AllZip SameRules a b → (move : Move)
    → move_verdict tree a move ≡ move_verdict tree b move
unfolding move_verdict
move_verdict-same tree a b same move =
    let denied = numbers_from-same SameRules (denies tree move) (denies tree move) (λ one other alike. denies-same tree move one other alike) 1 a b same in
    let held =
    numbers_from-same SameRules (holds_back tree move) (holds_back tree move) (λ one other alike. holds_back-same tree move one other alike) 1 a b same in
    rw (denied, held) refl

-- ---- ports and mounts look at no path

pub refusing_port-in_tree : (tree : List Entry) (domain : List (RulesOn ℕ)) (port : ℕ) (wanted : Net)
    → refusing_port (all_in_tree tree domain) port wanted ≡ refusing_port domain port wanted
unfolding granted_on_port
refusing_port-in_tree tree domain port wanted = numbers_from-map (λ layer. lacks_on_port layer port wanted) (in_tree tree) 1 domain

pub refusing_mount-in_tree : (tree : List Entry) (domain : List (RulesOn ℕ)) → refusing_mount (all_in_tree tree domain) ≡ refusing_mount domain
refusing_mount-in_tree tree domain = numbers_from-map (λ layer. not (files.is_empty layer.handled_files)) (in_tree tree) 1 domain

-- what is said of rules that are the same, and of domains whose layers are
pub ruleset rules_alike = (SameRules-refl, SameRules-sym, SameRules-trans)

pub ruleset answers_alike = (refusing-same, refusing_port-same, refusing_mount-same, move_verdict-same, refusing_port-in_tree, refusing_mount-in_tree)
