-- A layer lets a way up pass exactly where it lacks nothing on the path, and a way up is a chain.
use Rattle.std.proofs.Common.{◌≡◌, ℕ, zero, suc, ◌+◌, ◌<◌, Bool, true, false, not, ◌&&◌, ◌||◌, List, []}
use Rattle.std.proofs.Common.{◌∷◌, ◌++◌, map, length, get_or, refl, sym, ap, ◌∙◌, subst, inl, inr, ◌⊎◌, arith}
use Rattle.std.specs.Prelude.{◌↔◌, All, if◌then◌else◌}
use Rattle.std.specs.List.{Contains, filter, list_any}
use Rattle.std.proofs.lemmas.Bool.{cases_lt, and_parts, and_from, false≢true, not-true, not_from_false}
use Rattle.std.proofs.lemmas.List.Elements.{All-contains, All-cons, All-nil}
use Rattle.ll_rights.specs.declared.fs.Fs.{Fs}
use Rattle.ll_rights.specs.Rights.{FsRight, has, only, is_right, some_right, all_rights, named_rights, execute, refer}
use Rattle.ll_rights.proofs.Sets.{fs_has-only}
use Rattle.ll_lines.specs.Paths.{Path, front, is_prefix}
use Rattle.ll_tree.specs.declared.place.NodeId.{NodeId}
use Rattle.ll_tree.specs.Trees.{Entry, IsNode, path_at, kind_at, is_dir}
use Rattle.ll_tree.specs.TreeFacts.{IsTree}
use Rattle.ll_tree.proofs.Positions.{same_path, parent_found, empty_or_not, is_root, is_prefix-front, is_prefix-same}
use Rattle.ll_rules.specs.Layers.{RulesOn, handles, granted}
use Rattle.ll_rules.specs.InTree.{in_tree, all_in_tree, rule_on_path, node}
use Rattle.ll_rules.specs.Checks.{numbers_from, lacks, refusing}
use Rattle.ll_rules.proofs.AskedRights.{some_agree}
use Rattle.ll_rules.proofs.Booleans.{or_false, list_any-map}
use Rattle.ll_policy.specs.Chains.{is_among, IsChain, lets, some_among, passes}
use Rattle.ll_policy.specs.Granted.{granting, root}
use Rattle.ll_policy.specs.WaysUp.{ruled, all_ruled, way_up, is_file_at}
use Rattle.ll_policy.proofs.Lists.{here, there, some_passes, that_passes, filtered, filter_test, kept_within, in_flat_map}
use Rattle.ll_policy.proofs.Exactly.{among-contains, contains-among}

-- ---- one right alone

pub and_assoc : (a b c : Bool) → ((a && b) && c) ≡ (a && (b && c))
and_assoc true b c = refl
and_assoc false b c = refl

-- the test of one right alone
picked : (test : FsRight → Bool) (right : FsRight) → some_right (λ own. is_right own right && test own) ≡ test right
unfolding some_right all_rights named_rights
picked test execute = or_false (test execute)
picked test right = or_false (test right)

pub lacks-only : (layer : RulesOn Path) (path : Path) (right : FsRight) → lacks layer path (only right) ≡
    (handles layer right && not (granted layer path right))
lacks-only layer path right =
    some_agree (λ own. has (only right) own && handles layer own && not (granted layer path own))
    (λ own. is_right own right && (handles layer own && not (granted layer path own)))
    (λ own.
    and_assoc (has (only right) own) (handles layer own) (not (granted layer path own))
    ∙ ap (λ (b : Bool). b && (handles layer own && not (granted layer path own))) (fs_has-only own right))
    ∙ picked (λ own. handles layer own && not (granted layer path own)) right

-- ---- what is granted, by the nodes on the way

-- a rule grants a right, and is on the way to a path
abbrev pub is_by : List Entry → Path → FsRight → (ℕ × Fs) → Bool
is_by tree path right rule = is_prefix (path_at tree (node rule.0)) path && has rule.1 right

pub granted_by : (tree : List Entry) (layer : RulesOn ℕ) (path : Path) (right : FsRight)
    → granted (in_tree tree layer) path right ≡ list_any (is_by tree path right) layer.file_rules
unfolding granted
granted_by tree layer path right = list_any-map (λ rule. is_prefix rule.0 path && has rule.1 right) (rule_on_path tree) layer.file_rules

-- the element of a list that a function makes of another
from_map : {X Y : Type 0} (f : X → Y) (xs : List X) (y : Y) (k : ℕ) → k < length (map f xs) → get_or (map f xs) k y ≡ y
    → (x : X) × Contains xs x × (f x ≡ y)
from_map f [] y k within is = absurd (omega (arith, within))
from_map f (x ∷ xs) y zero within is = (x, here x xs, is)
from_map f (x ∷ xs) y (suc k) within is =
    let rest = from_map f xs y k (omega (arith, within)) is in
    (rest.0, there x xs rest.0 rest.1, rest.2)

pub mapped_from : {X Y : Type 0} (f : X → Y) (xs : List X) (y : Y) → Contains (map f xs) y → (x : X) × Contains xs x × (f x ≡ y)
mapped_from f xs y within = from_map f xs y within.0 within.1 within.2

to_map : {X Y : Type 0} (f : X → Y) (xs : List X) (x : X) (k : ℕ) → k < length xs → get_or xs k x ≡ x → Contains (map f xs) (f x)
to_map f [] x k within is = absurd (omega (arith, within))
to_map f (first ∷ xs) x zero within is = subst (λ y. Contains (map f (first ∷ xs)) (f y)) is (here (f first) (map f xs))
to_map f (first ∷ xs) x (suc k) within is = there (f first) (map f xs) (f x) (to_map f xs x k (omega (arith, within)) is)

pub mapped_to : {X Y : Type 0} (f : X → Y) (xs : List X) (x : X) → Contains xs x → Contains (map f xs) (f x)
mapped_to f xs x within = to_map f xs x within.0 within.1 within.2

pub equal_tests : (a b : Bool) → (a ≡ true → b ≡ true) → (b ≡ true → a ≡ true) → a ≡ b
equal_tests true true forth back = refl
equal_tests true false forth back = sym (forth refl)
equal_tests false true forth back = back refl
equal_tests false false forth back = refl

-- each node that a layer has rules on is among some nodes
abbrev pub AreRuledBy : List ℕ → RulesOn ℕ → Type 0
AreRuledBy nodes layer = (number : ℕ) → Contains (ruled layer) number → Contains nodes number

-- some rule on the way grants a right exactly where some node of the way is one that the layer grants it on
pub by_way : (tree : List Entry) (nodes : List ℕ) (layer : RulesOn ℕ) (path : Path) (right : FsRight) → AreRuledBy nodes layer
    → some_among (way_up tree nodes path) (granting right layer).grants ≡ granted (in_tree tree layer) path right
unfolding some_among way_up
by_way tree nodes layer path right within =
    let on_way = λ (number : ℕ). is_prefix (path_at tree (node number)) path in
    let gives = λ (rule : ℕ × Fs). has rule.1 right in
    let number_of = λ (rule : ℕ × Fs). rule.0 in
    equal_tests (some_among (way_up tree nodes path) (granting right layer).grants) (granted (in_tree tree layer) path right)
    (λ some.
    let found = that_passes (λ (object : ℕ). is_among object (granting right layer).grants) (way_up tree nodes path) some in
    let rule = mapped_from number_of (filter gives layer.file_rules) found.0 (among-contains found.0 (granting right layer).grants found.2) in
    granted_by tree layer path right
    ∙ some_passes (is_by tree path right) layer.file_rules rule.0 (kept_within gives layer.file_rules rule.0 rule.1)
    (and_from (on_way (number_of rule.0)) (gives rule.0)
    (ap on_way rule.2 ∙ filter_test on_way (0 ∷ nodes) found.0 found.1) (filter_test gives layer.file_rules rule.0 rule.1)))
    (λ given.
    let found = that_passes (is_by tree path right) layer.file_rules (sym (granted_by tree layer path right) ∙ given) in
    let parts = and_parts (on_way (number_of found.0)) (gives found.0) found.2 in
    some_passes (λ (object : ℕ). is_among object (granting right layer).grants) (way_up tree nodes path) (number_of found.0)
    (filtered on_way (0 ∷ nodes) (number_of found.0)
    (there 0 nodes (number_of found.0) (within (number_of found.0) (mapped_to number_of layer.file_rules found.0 found.1))) parts.0)
    (contains-among (number_of found.0) (granting right layer).grants
    (mapped_to number_of (filter gives layer.file_rules) found.0 (filtered gives layer.file_rules found.0 found.1 parts.1))))

pub lets_or_lacks : (a b : Bool) → (not a || b) ≡ not (a && not b)
lets_or_lacks true true = refl
lets_or_lacks true false = refl
lets_or_lacks false b = refl

pub handles_alike : (tree : List Entry) (layer : RulesOn ℕ) (right : FsRight) → handles (in_tree tree layer) right ≡ handles layer right
handles_alike tree layer refer = refl
handles_alike tree layer right = refl

-- a layer lets a way up pass exactly where it lacks nothing on the path
pub lets_where_nothing_lacks : (tree : List Entry) (nodes : List ℕ) (layer : RulesOn ℕ) (path : Path) (right : FsRight) → AreRuledBy nodes layer
    → lets (way_up tree nodes path) (granting right layer) ≡ not (lacks (in_tree tree layer) path (only right))
unfolding lets
lets_where_nothing_lacks tree nodes layer path right within =
    ap (λ (b : Bool). not (handles layer right) || b) (by_way tree nodes layer path right within)
    ∙ lets_or_lacks (handles layer right) (granted (in_tree tree layer) path right)
    ∙ ap (λ (b : Bool). not (b && not (granted (in_tree tree layer) path right))) (sym (handles_alike tree layer right))
    ∙ ap not (sym (lacks-only (in_tree tree layer) path right))

-- ---- domains

pub cons_or_nil : (x : ℕ) (xs : List ℕ) → x ∷ xs ≡ [] → ⊥
cons_or_nil x xs is = cc

pub no_numbers : (test : Bool) (number : ℕ) (numbers : List ℕ) → (if test then number ∷ [] else []) ++ numbers ≡ [] → (test ≡ false) × (numbers ≡ [])
no_numbers true number numbers none = absurd (cons_or_nil number numbers none)
no_numbers false number numbers none = (refl, none)

-- no layer refuses where each lets the way up pass
pub refuses_none : (tree : List Entry) (nodes : List ℕ) (path : Path) (right : FsRight) (number : ℕ) (layers : List (RulesOn ℕ))
    → ((layer : RulesOn ℕ) → Contains layers layer → AreRuledBy nodes layer)
    → (passes (map (granting right) layers) (way_up tree nodes path) ≡ true)
    ↔ (numbers_from (λ layer. lacks layer path (only right)) number (all_in_tree tree layers) ≡ [])
unfolding passes numbers_from
refuses_none tree nodes path right number [] within = (λ all. refl, λ none. refl)
refuses_none tree nodes path right number (layer ∷ layers) within =
    let rest = refuses_none tree nodes path right (number + 1) layers (λ other inside. within other (there layer layers other inside)) in
    let first = lets_where_nothing_lacks tree nodes layer path right (within layer (here layer layers)) in (
      λ all.
          let parts = and_parts (lets (way_up tree nodes path) (granting right layer)) (passes (map (granting right) layers) (way_up tree nodes path)) all in
          let lacking : lacks (in_tree tree layer) path (only right) ≡ false = not-true (lacks (in_tree tree layer) path (only right)) (sym first ∙ parts.0) in
          ap (λ (b : Bool). (if b then number ∷ [] else []) ++ numbers_from (λ own. lacks own path (only right)) (number + 1) (all_in_tree tree layers)) lacking
          ∙ rest.0 parts.1,
      λ none.
          let parts = no_numbers (lacks (in_tree tree layer) path (only right)) number
          (numbers_from (λ own. lacks own path (only right)) (number + 1) (all_in_tree tree layers)) none in
          and_from (lets (way_up tree nodes path) (granting right layer)) (passes (map (granting right) layers) (way_up tree nodes path))
          (first ∙ not_from_false (lacks (in_tree tree layer) path (only right)) parts.0) (rest.1 parts.1),
    )

among_flat : (layers : List (RulesOn ℕ)) (layer : RulesOn ℕ) → Contains layers layer → AreRuledBy (all_ruled layers) layer
unfolding all_ruled
among_flat layers layer inside number within = in_flat_map ruled layers layer number inside within

pub refuses_on_way : (tree : List Entry) (layers : List (RulesOn ℕ)) (path : Path) (right : FsRight)
    → (passes (map (granting right) layers) (way_up tree (all_ruled layers) path) ≡ true) ↔ (refusing (all_in_tree tree layers) path (only right) ≡ [])
refuses_on_way tree layers path right = refuses_none tree (all_ruled layers) path right 1 layers (among_flat layers)

-- ---- a way up is a chain

no_more : (upper path : Path) → path ≡ [] → is_prefix upper (front path) ≡ true → upper ≡ path
unfolding is_prefix front
no_more upper [] top above = empty_prefix upper above
  where
    empty_prefix : (some : Path) → is_prefix some [] ≡ true → some ≡ []
    empty_prefix [] is = refl
    empty_prefix (name ∷ names) is = absurd (false≢true is)
no_more upper (name ∷ names) top above = cc

-- the path of a prefix is the path itself, or a prefix of what is above
prefix_or_same : (upper path : Path) → is_prefix upper path ≡ true → (upper ≡ path) ⊎ (is_prefix upper (front path) ≡ true)
prefix_or_same upper path is =
    elim (cases_lt (length upper) (length path)) [
      | inl shorter ↦ inr (is_prefix-front upper path shorter ∙ is)
      | inr longer ↦ inl (same_path upper path (sym (is_prefix-same upper path longer) ∙ is))
    ]

-- a file on the way up from a node is the node
pub file_on_way : (bound : ℕ) (tree : List Entry) (file here : NodeId) → here.0 < bound → IsTree tree → IsNode tree file → IsNode tree here
    → is_dir (kind_at tree file) ≡ false → is_prefix (path_at tree file) (path_at tree here) ≡ true → file ≡ here
file_on_way zero tree file here below listed inside within is prefix = absurd (omega (arith, below))
file_on_way (suc bound) tree file here below listed inside within is prefix =
    elim (prefix_or_same (path_at tree file) (path_at tree here) prefix) [
      | inl same ↦ listed.distinct file here inside within same
      | inr above ↦ elim (empty_or_not (path_at tree here)) [
        | inl top ↦ listed.distinct file here inside within (no_more (path_at tree file) (path_at tree here) top above)
        | inr other ↦
            let up = parent_found tree here listed within other in
            let same = file_on_way bound tree file up.0 (omega (arith, below, up.2.before)) listed inside up.2.is_node is
            (subst (λ (path : Path). is_prefix (path_at tree file) path ≡ true) (sym up.2.is_front) above) in
            absurd (false≢true (sym is ∙ ap (λ (n : NodeId). is_dir (kind_at tree n)) same ∙ ap is_dir up.2.is_dir))
      ]
    ]

-- the nodes on a way up are nodes of the tree, and on the way
pub on_way : (tree : List Entry) (nodes : List ℕ) (path : Path) (number : ℕ) → IsTree tree → All (λ own. own < length tree) nodes
    → Contains (way_up tree nodes path) number → (number < length tree) × (is_prefix (path_at tree (node number)) path ≡ true)
unfolding way_up
on_way tree nodes path number listed inside within =
    let test = λ (own : ℕ). is_prefix (path_at tree (node own)) path in (
      All-contains (λ (own : ℕ). own < length tree) (0 ∷ nodes) number (All-cons (λ (own : ℕ). own < length tree) 0 nodes listed.begins.0 inside)
          (kept_within test (0 ∷ nodes) number within),
      filter_test test (0 ∷ nodes) number within,
    )

pub way_up_chain : (tree : List Entry) (nodes : List ℕ) (here : NodeId) → IsTree tree → All (λ own. own < length tree) nodes → IsNode tree here
    → IsChain (is_file_at tree) (way_up tree nodes (path_at tree here))
way_up_chain tree nodes here listed inside within one other first second is too =
    let single = λ (number : ℕ) (there_is : Contains (way_up tree nodes (path_at tree here)) number) (file : is_file_at tree number ≡ true).
    let at = on_way tree nodes (path_at tree here) number listed inside there_is in
    ap (λ (n : NodeId). n.0)
    (file_on_way (suc here.0) tree (node number) here (omega arith) listed at.0 within (not-true (is_dir (kind_at tree (node number))) file) at.1) in
    single one first is ∙ sym (single other second too)

pub way_up_begins : (tree : List Entry) (nodes : List ℕ) (path : Path) → IsTree tree → All (Contains (way_up tree nodes path)) root
unfolding way_up is_prefix
way_up_begins tree nodes path listed =
    All-cons (Contains (way_up tree nodes path)) 0 []
    (filtered (λ (own : ℕ). is_prefix (path_at tree (node own)) path) (0 ∷ nodes) 0 (here 0 nodes)
    (ap (λ (top : Path). is_prefix top path) (is_root tree listed)))
    (All-nil (Contains (way_up tree nodes path)))
