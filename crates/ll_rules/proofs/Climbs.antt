-- What is granted on a path, from its last name up: by the rules on the path itself, and on what is above it.
use Rattle.std.proofs.Common.{◌≡◌, ℕ, ◌<◌, Bool, true, false, ◌&&◌, ◌||◌, eqb, List, [], ◌∷◌, map, length, refl, sym, ap, ◌∙◌}
use Rattle.std.specs.Prelude.{All, Option, Some, None, IfSome, IfNone}
use Rattle.std.specs.Str.{bytes_eq}
use Rattle.std.specs.List.{list_any}
use Rattle.std.proofs.lemmas.Bool.{and_parts, and_from}
use Rattle.std.proofs.lemmas.List.Elements.{All-head, All-tail}
use Rattle.std.proofs.lemmas.Slice.Eq.{bytes_eq-Decides}
use Rattle.ll_rights.specs.declared.fs.Fs.{Fs}
use Rattle.ll_rights.specs.Rights.{FsRight, has}
use Rattle.ll_tree.specs.declared.place.NodeId.{NodeId}
use Rattle.ll_lines.specs.Paths.{Path, front, is_prefix, path_eq}
use Rattle.ll_tree.specs.Trees.{Entry, IsNode, path_at}
use Rattle.ll_tree.specs.TreeFacts.{IsTree, StandsIn}
use Rattle.ll_tree.proofs.Positions.{path_eq-nodes}
use Rattle.ll_rules.specs.Layers.{RulesOn, granted}
use Rattle.ll_rules.specs.KeptLayers.{granted_on, granted_on_node}
use Rattle.ll_rules.specs.InTree.{in_tree, rule_on_path, node, AreInTree, granted_above}
use Rattle.ll_rules.proofs.Booleans.{or_false, and_or, or_and, list_any-agree, list_any-or, list_any-map}

-- ---- prefixes

pub prefix-same : (path : Path) → is_prefix path path ≡ true
unfolding is_prefix
prefix-same [] = refl
prefix-same (name ∷ names) = and_from (bytes_eq name name) (is_prefix names names) ((bytes_eq-Decides name name).1 refl) (prefix-same names)

pub prefix-trans : (a b c : Path) → is_prefix a b ≡ true → is_prefix b c ≡ true → is_prefix a c ≡ true
unfolding is_prefix
prefix-trans [] b c ab bc = refl
prefix-trans (x ∷ a) [] c ab bc = cc
prefix-trans (x ∷ a) (y ∷ b) [] ab bc = cc
prefix-trans (x ∷ a) (y ∷ b) (z ∷ c) ab bc =
    let first = and_parts (bytes_eq x y) (is_prefix a b) ab in
    let second = and_parts (bytes_eq y z) (is_prefix b c) bc in
    and_from (bytes_eq x z) (is_prefix a c) ((bytes_eq-Decides x z).1 ((bytes_eq-Decides x y).0 first.0 ∙ (bytes_eq-Decides y z).0 second.0))
    (prefix-trans a b c first.1 second.1)

is_prefix-root : (path : Path) → is_prefix path [] ≡ path_eq path []
unfolding is_prefix path_eq
is_prefix-root [] = refl
is_prefix-root (name ∷ names) = refl

-- a prefix is the path itself, or one of its front
is_prefix-split : (path : Path) (first : List ℕ) (others : Path)
    → is_prefix path (first ∷ others) ≡ (path_eq path (first ∷ others) || is_prefix path (front (first ∷ others)))
unfolding is_prefix path_eq front
is_prefix-split [] first [] = refl
is_prefix-split [] first (next ∷ others) = refl
is_prefix-split (name ∷ names) first [] =
    ap (λ (b : Bool). bytes_eq name first && b) (is_prefix-root names) ∙ sym (or_false (bytes_eq name first && path_eq names []))
is_prefix-split (name ∷ names) first (next ∷ others) =
    ap (λ (b : Bool). bytes_eq name first && b) (is_prefix-split names next others)
    ∙ and_or (bytes_eq name first) (path_eq names (next ∷ others)) (is_prefix names (front (next ∷ others)))

pub granted-split : (rules : RulesOn Path) (first : List ℕ) (others : Path) (right : FsRight)
    → granted rules (first ∷ others) right ≡ (granted_on rules (first ∷ others) right || granted rules (front (first ∷ others)) right)
unfolding granted granted_on
granted-split rules first others right =
    let path = first ∷ others in
    list_any-agree (λ rule. is_prefix rule.0 path && has rule.1 right)
    (λ rule. (path_eq rule.0 path && has rule.1 right) || (is_prefix rule.0 (front path) && has rule.1 right))
    (λ rule.
    ap (λ (b : Bool). b && has rule.1 right) (is_prefix-split rule.0 first others)
    ∙ or_and (path_eq rule.0 path) (is_prefix rule.0 (front path)) (has rule.1 right)) rules.file_rules
    ∙ list_any-or (λ rule. path_eq rule.0 path && has rule.1 right) (λ rule. is_prefix rule.0 (front path) && has rule.1 right) rules.file_rules

pub granted-root : (rules : RulesOn Path) (right : FsRight) → granted rules [] right ≡ granted_on rules [] right
unfolding granted granted_on
granted-root rules right =
    list_any-agree (λ rule. is_prefix rule.0 [] && has rule.1 right) (λ rule. path_eq rule.0 [] && has rule.1 right)
    (λ rule. ap (λ (b : Bool). b && has rule.1 right) (is_prefix-root rule.0)) rules.file_rules

-- ---- by nodes

on_nodes : (tree : List Entry) (rules : List (ℕ × Fs)) (here : NodeId) (right : FsRight) → IsTree tree → IsNode tree here
    → All (λ number. number < length tree) (map (λ rule. rule.0) rules)
    → list_any (λ rule. path_eq (rule_on_path tree rule).0 (path_at tree here) && has rule.1 right) rules
    ≡ list_any (λ rule. eqb here.0 rule.0 && has rule.1 right) rules
on_nodes tree [] here right listed inside within = refl
on_nodes tree (rule ∷ rules) here right listed inside within =
    let first : IsNode tree (node rule.0) = All-head (λ (number : ℕ). number < length tree) rule.0 (map (λ other. other.0) rules) within in
    let rest = on_nodes tree rules here right listed inside (All-tail (λ (number : ℕ). number < length tree) rule.0 (map (λ other. other.0) rules) within) in
    rw (← path_eq-nodes tree (node rule.0) here listed first inside, rest) refl

-- on the path of a node the rules on that node grant
pub granted_on-node : (tree : List Entry) (rules : RulesOn ℕ) (here : NodeId) (right : FsRight) → IsTree tree → IsNode tree here → AreInTree tree rules
    → granted_on (in_tree tree rules) (path_at tree here) right ≡ granted_on_node rules here right
unfolding granted_on granted_on_node
granted_on-node tree rules here right listed inside within =
    list_any-map (λ rule. path_eq rule.0 (path_at tree here) && has rule.1 right) (rule_on_path tree) rules.file_rules
    ∙ on_nodes tree rules.file_rules here right listed inside within

or_same : (b : Bool) → b ≡ (b || b)
or_same true = refl
or_same false = refl

pub from_path : (rules : RulesOn Path) (path above : Path) (here : Bool) (right : FsRight) → granted_on rules path right ≡ here → above ≡ front path
    → granted rules path right ≡ (here || granted rules above right)
unfolding front
from_path rules [] above here right on is =
    let root = granted-root rules right ∙ on in
    root ∙ or_same here ∙ ap (λ (b : Bool). here || b) (sym root ∙ ap (λ (path : Path). granted rules path right) (sym is))
from_path rules (first ∷ others) above here right on is =
    granted-split rules first others right
    ∙ ap (λ (b : Bool). b || granted rules (front (first ∷ others)) right) on
    ∙ ap (λ (path : Path). here || granted rules path right) (sym is)

-- one step of the climb
pub climbed : (tree : List Entry) (rules : RulesOn ℕ) (here : NodeId) (up : Option NodeId) (right : FsRight) → IsTree tree
    → IsNode tree here → AreInTree tree rules
    → IfNone up (path_at tree here ≡ []) → IfSome up (StandsIn tree here)
    → granted (in_tree tree rules) (path_at tree here) right ≡ (granted_on_node rules here right || granted_above tree rules up right)
unfolding granted_above
climbed tree rules here None right listed inside within top below =
    ap (λ (path : Path). granted (in_tree tree rules) path right) top
    ∙ granted-root (in_tree tree rules) right
    ∙ ap (λ (path : Path). granted_on (in_tree tree rules) path right) (sym top)
    ∙ granted_on-node tree rules here right listed inside within
    ∙ sym (or_false (granted_on_node rules here right))
climbed tree rules here (Some above) right listed inside within top below =
    from_path (in_tree tree rules) (path_at tree here) (path_at tree above) (granted_on_node rules here right) right
    (granted_on-node tree rules here right listed inside within) below.is_front

-- past a node on which nothing is granted the same is granted
pub passed : (tree : List Entry) (rules : RulesOn ℕ) (here : NodeId) (up : Option NodeId) (right : FsRight) → IsTree tree
    → IsNode tree here → AreInTree tree rules
    → IfNone up (path_at tree here ≡ []) → IfSome up (StandsIn tree here)
    → granted_on_node rules here right ≡ false → granted_above tree rules up right ≡ granted_above tree rules (Some here) right
unfolding granted_above
passed tree rules here up right listed inside within top below none =
    sym (climbed tree rules here up right listed inside within top below ∙ ap (λ (b : Bool). b || granted_above tree rules up right) none)

pub nodes_above : (tree : List Entry) (here : NodeId) (up : Option NodeId) → IfSome up (StandsIn tree here) → IfSome up (IsNode tree)
nodes_above tree here None below = tt
nodes_above tree here (Some above) below = below.is_node
