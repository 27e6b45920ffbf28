-- Where a path is in a list of entries, what is above a node, and the place that a text names.
use Rattle.std.proofs.Common.{◌≡◌, ℕ, suc, zero, ◌≤◌, ◌<◌, ◌∷◌, [], ◌++◌, List, Bool, true, false, ◌&&◌, length, Option, Some, None, cond, refl, sym, ◌∙◌}
use Rattle.std.proofs.Common.{subst, inl, inr, arith, get_or, ◌⊎◌, ⊎_elim, ap, take, eqb}
use Rattle.std.specs.Option.{option_map}
use Rattle.std.proofs.lemmas.Bool.{cases_Bool, and_parts, false≢true, cases_lt}
use Rattle.std.proofs.lemmas.Option.{none-some, same_Some}
use Rattle.std.proofs.lemmas.Slice.Eq.{slice_eq-Decides, bytes_eq-Decides}
use Rattle.std.specs.Bool.{Decides}
use Rattle.ll_lines.specs.Paths.{Path, path_eq, front, path_of, is_prefix, is_path, text_of}
use Rattle.ll_tree.specs.Trees.{Entry, root, is_dir, is_dir_in, position_of, IsNode, path_at, kind_at, node_at, parent_of, parent_at, place_or_gap, place_of}
use Rattle.ll_tree.specs.Trees.{place}
use Rattle.std.proofs.lemmas.List.{get_or_default, length-take, get_or-take}
use Rattle.std.proofs.lemmas.List.Folds.{Any-from_list_any, list_any_at}
use Rattle.std.specs.Prelude.{◌≢◌, IfSome, IfNone, is_some, unwrap_or}
use Rattle.ll_rights.specs.declared.kind.Kind.{Kind}
use Rattle.ll_rights.specs.declared.kind.Kind.TheVariants.{Dir}
use Rattle.ll_tree.specs.declared.place.NodeId.{NodeId}
use Rattle.ll_tree.specs.TreeFacts.{IsTree, StandsIn, spelt, depth_at}
use Rattle.std.specs.declared.string.String.{String}
use Rattle.ll_tree.specs.declared.tree.Object.{Object}
use Rattle.ll_tree.specs.declared.place.Place.TheVariants as places
use Rattle.ll_tree.specs.Kept.{number_of, entries_of, IsSound}
use Rattle.ll_lines.proofs.PathLaws.{text_of-path_of, is_path-path_of}
use Rattle.std.specs.Str.{bytes_eq}
use Rattle.std.proofs.lemmas.Bool.Decides.{same_from_decides, Decides-eqb, Decides-like}

pub path_eq-Decides : (a b : Path) → Decides (path_eq a b) (a ≡ b)
unfolding path_eq
path_eq-Decides a b = slice_eq-Decides bytes_eq-Decides a b (path_eq a b) refl

pub same_path : (a b : Path) → path_eq a b ≡ true → a ≡ b
same_path a b = (path_eq-Decides a b).0

pub path_eq-same : (a b : Path) → a ≡ b → path_eq a b ≡ true
path_eq-same a b = (path_eq-Decides a b).1

-- the path of the entry at an index
abbrev pub path_in : List Entry → ℕ → Path
path_in entries index = (get_or entries index root).path

-- what is at the index that is found
pub at_position : (path : Path) (entries : List Entry) (index : ℕ) → position_of path entries ≡ Some index
    → (index < length entries) × (path_in entries index ≡ path)
unfolding position_of
at_position path [] index is = absurd (none-some index is)
at_position path (entry ∷ entries) index is =
    elim (path_eq entry.path path) as (λ b. path_eq entry.path path ≡ b → cond b (Some 0) (option_map (λ n. suc n) (position_of path entries)) ≡ Some index
    → (index < suc (length entries)) × (path_in (entry ∷ entries) index ≡ path)) [
      | true ↦ λ same found. subst (λ n. (n < suc (length entries)) × (path_in (entry ∷ entries) n ≡ path)) (same_Some 0 index found)
          (omega arith, same_path entry.path path same)
      | false ↦ λ other found. later (position_of path entries) (at_position path entries) found
    ] refl is
  where
    later : (rest : Option ℕ) → ((n : ℕ) → rest ≡ Some n → (n < length entries) × (path_in entries n ≡ path)) → option_map (λ n. suc n) rest ≡ Some index
        → (index < suc (length entries)) × (path_in (entry ∷ entries) index ≡ path)
    later None eq found = absurd (none-some index found)
    later (Some before) eq found =
        let there = eq before refl in
        subst (λ n. (n < suc (length entries)) × (path_in (entry ∷ entries) n ≡ path)) (same_Some (suc before) index found) (omega arith, there.1)

-- a path that is in the list is found, there or earlier
pub position_of-some : (path : Path) (entries : List Entry) (index : ℕ) → index < length entries → path_in entries index ≡ path
    → (first : ℕ) × (position_of path entries ≡ Some first) × (first ≤ index)
unfolding position_of
position_of-some path [] index within is = absurd (omega arith)
position_of-some path (entry ∷ entries) zero within is = (0, rw (path_eq-same entry.path path is) refl, omega arith)
position_of-some path (entry ∷ entries) (suc index) within is =
    let (first, found, early) = position_of-some path entries index (omega arith) is in
    elim (path_eq entry.path path) as (λ b. (n : ℕ) × (cond b (Some 0) (option_map (λ n. suc n) (position_of path entries)) ≡ Some n) × (n ≤ suc index)) [
      | true ↦ (0, refl, omega arith)
      | false ↦ (suc first, rw found refl, omega arith)
    ]

-- the index after one more entry: where the path was, or at the end
or_else : Option ℕ → Option ℕ → Option ℕ
or_else None other = other
or_else (Some index) other = Some index

position_of-more : (path : Path) (entries : List Entry) (new : Entry)
    → position_of path (entries ++ new ∷ []) ≡ or_else (position_of path entries) (cond (path_eq new.path path) (Some (length entries)) None)
unfolding position_of or_else
position_of-more path [] new = refl
position_of-more path (entry ∷ entries) new =
    rw (position_of-more path entries new) (by (path_eq entry.path path) (position_of path entries) (path_eq new.path path))
  where
    by : (here : Bool) (found : Option ℕ) (last : Bool)
        → cond here (Some 0) (option_map (λ index. suc index) (or_else found (cond last (Some (length entries)) None)))
        ≡ or_else (cond here (Some 0) (option_map (λ index. suc index) found)) (cond last (Some (suc (length entries))) None)
    by true found last = refl
    by false (Some n) last = refl
    by false None true = refl
    by false None false = refl

-- what is found stays found
pub position_of-kept : (path : Path) (entries : List Entry) (new : Entry) (index : ℕ) → position_of path entries ≡ Some index
    → position_of path (entries ++ new ∷ []) ≡ Some index
unfolding or_else
position_of-kept path entries new index found = position_of-more path entries new ∙ rw found refl

-- a path that wasn't there is the new one's, or is found as before
pub position_of-push : (path : Path) (entries : List Entry) (new : Entry) → position_of new.path entries ≡ None
    → position_of path (entries ++ new ∷ []) ≡ cond (path_eq new.path path) (Some (length entries)) (position_of path entries)
unfolding or_else
position_of-push path entries new fresh = position_of-more path entries new ∙ elim (cases_Bool (path_eq new.path path)) [
  | inl last ↦ rw (last, ← same_path new.path path last, fresh) refl
  | inr other ↦ rw other (elim (position_of path entries) as (λ found. or_else found None ≡ found) [ None ↦ refl | Some index ↦ refl ])
]

-- a directory of the list is somewhere in it
pub place_of_dir : (path : Path) (entries : List Entry) → is_dir_in entries path ≡ true
    → (index : ℕ) × (index < length entries) × (path_in entries index ≡ path) × (is_dir (get_or entries index root).kind ≡ true)
unfolding is_dir_in
place_of_dir path entries is =
    let some = Any-from_list_any (λ entry. path_eq entry.path path && is_dir entry.kind) entries is in
    let there : some.1 ≡ get_or entries some.0 root = sym some.3 ∙ get_or_default entries some.0 some.1 root some.2 in
    let tests = and_parts (path_eq (get_or entries some.0 root).path path) (is_dir (get_or entries some.0 root).kind) (rw there at some.4) in
    (some.0, some.2, same_path (get_or entries some.0 root).path path tests.0, tests.1)

-- a directory that is at an index is one of the list
pub is_dir_in-from_index : (path : Path) (entries : List Entry) (index : ℕ) → index < length entries → path_in entries index ≡ path
    → is_dir (get_or entries index root).kind ≡ true → is_dir_in entries path ≡ true
unfolding is_dir_in
is_dir_in-from_index path entries index within is dir =
    list_any_at (λ entry. path_eq entry.path path && is_dir entry.kind) entries index root within
    (rw (path_eq-same (get_or entries index root).path path is, dir) refl)

-- ---- what is above a node

abbrev pub node : ℕ → NodeId
node number = record { 0 = number }

-- the first node is the root, and no other has its path
pub is_root : (tree : List Entry) → IsTree tree → path_at tree (node 0) ≡ []
unfolding path_at
is_root tree listed = ap (λ (e : Entry). e.path) listed.begins.1

-- where something is in what is above a node, it is the only one of its path
pub parent_of-root : (tree : List Entry) (path : Path) → path ≡ [] → parent_of tree path ≡ None
unfolding parent_of
parent_of-root tree [] is = refl
parent_of-root tree (name ∷ names) is = cc

pub parent_of-other : (tree : List Entry) (path : Path) → path ≢ [] → parent_of tree path ≡ node_at tree (front path)
unfolding parent_of
parent_of-other tree [] other = absurd (other refl)
parent_of-other tree (name ∷ names) other = refl

-- a path that is at an index of a tree is found there
pub position_is : (tree : List Entry) (index : ℕ) → IsTree tree → index < length tree → position_of (path_in tree index) tree ≡ Some index
unfolding path_at
position_is tree index listed within =
    let found = position_of-some (path_in tree index) tree index within refl in
    let there = at_position (path_in tree index) tree found.0 found.1 in
    let same : found.0 ≡ index = ap (λ (n : NodeId). n.0) (listed.distinct (node found.0) (node index) there.0 within there.1) in
    found.1 ∙ ap (λ (n : ℕ). Some n) same

pub is_dir-Dir : (kind : Kind) → is_dir kind ≡ true → kind ≡ Dir
is_dir-Dir Dir is = refl
is_dir-Dir kind is = absurd (false≢true is)

-- the parent of a node that isn't the root
pub parent_found : (tree : List Entry) (here : NodeId) → IsTree tree → IsNode tree here → path_at tree here ≢ []
    → (up : NodeId) × (parent_at tree here ≡ Some up) × StandsIn tree here up
unfolding parent_at node_at path_at kind_at
parent_found tree here listed within other =
    let later : 0 < here.0 = ⊎_elim (λ (l : 0 < here.0). l) (λ (l : here.0 ≤ 0).
    absurd (other (let first : here.0 ≡ 0 = omega arith in ap (λ n. path_in tree n) first ∙ is_root tree listed))) (cases_lt 0 here.0) in
    let path = path_at tree here in
    let dir = place_of_dir (front path) (take here.0 tree) (listed.above here within later) in
    let short = length-take here.0 tree in
    let before : dir.0 < here.0 = let b = dir.1 in omega arith in
    let inside : dir.0 < length tree = omega arith in
    let same : get_or (take here.0 tree) dir.0 root ≡ get_or tree dir.0 root = get_or-take here.0 tree dir.0 root before in
    let is_front : path_in tree dir.0 ≡ front path = ap (λ (e : Entry). e.path) (sym same) ∙ dir.2 in
    let directory : kind_at tree (node dir.0) ≡ Dir = is_dir-Dir (kind_at tree (node dir.0)) (ap (λ (e : Entry). is_dir e.kind) (sym same) ∙ dir.3) in
    let found : position_of (front path) tree ≡ Some dir.0 = ap (λ p. position_of p tree) (sym is_front) ∙ position_is tree dir.0 listed inside in (
      node dir.0,
      parent_of-other tree path other ∙ ap (option_map node) found,
      record { is_node = inside; is_front = is_front; is_dir = directory; before = before },
    )

pub empty_or_not : (path : Path) → (path ≡ []) ⊎ (path ≢ [])
empty_or_not [] = inl refl
empty_or_not (name ∷ names) = inr (λ e. cc)

pub parent_none : (tree : List Entry) (here : NodeId) → IsTree tree → IsNode tree here → parent_at tree here ≡ None → path_at tree here ≡ []
parent_none tree here listed within none =
    ⊎_elim (λ (is : path_at tree here ≡ []). is)
    (λ (other : path_at tree here ≢ []). let found = parent_found tree here listed within other in absurd (none-some found.0 (sym none ∙ found.1)))
    (empty_or_not (path_at tree here))

-- the two outcomes of a parent
pub if_none : (tree : List Entry) (here : NodeId) (up : Option NodeId) → IsTree tree → IsNode tree here → up ≡ parent_at tree here
    → IfNone up (path_at tree here ≡ [])
if_none tree here None listed within is = parent_none tree here listed within (sym is)
if_none tree here (Some up) listed within is = tt

pub if_some : (tree : List Entry) (here : NodeId) (up : Option NodeId) → IsTree tree → IsNode tree here → up ≡ parent_at tree here
    → IfSome up (StandsIn tree here)
unfolding parent_at
if_some tree here None listed within is = tt
if_some tree here (Some up) listed within is =
    ⊎_elim
    (λ (top : path_at tree here ≡ []). absurd (none-some up (sym (is ∙ parent_of-root tree (path_at tree here) top))))
    (λ (other : path_at tree here ≢ []). let found = parent_found tree here listed within other in
    subst (λ (n : NodeId). StandsIn tree here n) (same_Some found.0 up (sym found.1 ∙ sym is)) found.2)
    (empty_or_not (path_at tree here))

-- ---- looking up a text in what a tree keeps, and the place that it names

-- a text that has the shape of a path spells it
pub spelt_is : (text : List ℕ) → is_some (path_of text) ≡ true → path_of text ≡ Some (spelt text)
spelt_is text shape =
    elim (path_of text) as (λ r. is_some r ≡ true → r ≡ Some (unwrap_or r [])) [ None ↦ λ some. absurd (false≢true some) | Some path ↦ λ some. refl ] shape

-- what the map has at the text of a path is the path's node
pub found_is : {A : Type 0} (objects : List Object) (numbers : List (String A × ℕ)) (value : List Entry) (text : List ℕ) (found : Option ℕ) (heads : List ℕ)
    → IsSound objects numbers heads → entries_of objects ≡ value → is_some (path_of text) ≡ true → found ≡ number_of numbers text
    → option_map node found ≡ node_at value (spelt text)
unfolding node_at
found_is objects numbers value text found heads sound is shape got =
    let read = spelt_is text shape in
    ap (option_map node) (got ∙ ap (number_of numbers) (sym (text_of-path_of text (spelt text) read))
    ∙ sound.found (spelt text) (is_path-path_of text (spelt text) read) ∙ ap (position_of (spelt text)) is)

-- a node that has the path of a text is the path's node
pub guessed_is : (tree : List Entry) (path : Path) (here : NodeId) → IsTree tree → IsNode tree here → path_at tree here ≡ path → Some here ≡ node_at tree path
unfolding node_at path_at
guessed_is tree path here listed within is = sym (ap (option_map node) (ap (λ p. position_of p tree) (sym is) ∙ position_is tree here.0 listed within))

-- where a node is found, its path is at its number
pub node_at-position : (tree : List Entry) (path : Path) (here : NodeId) → node_at tree path ≡ Some here → position_of path tree ≡ Some here.0
unfolding node_at
node_at-position tree path here is =
    elim (position_of path tree) as (λ found. option_map node found ≡ Some here
    → found ≡ Some here.0) [ None ↦ λ none. absurd (none-some here none) | Some n ↦ λ same. ap (λ (x : NodeId). Some x.0) (same_Some (node n) here same) ] is

-- and it is of the tree
pub node_at-IsNode : (tree : List Entry) (path : Path) (found : Option NodeId) → found ≡ node_at tree path → IfSome found (IsNode tree)
node_at-IsNode tree path None is = tt
node_at-IsNode tree path (Some here) is = (at_position path tree here.0 (node_at-position tree path here (sym is))).0

-- a text that is no path names nothing, any other what its path does
pub place_other : (tree : List Entry) (text : List ℕ) → is_some (path_of text) ≡ false → places.Nowhere ≡ place tree text
unfolding place place_of
place_other tree text other = elim (path_of text) as (λ r. is_some r ≡ false
    → places.Nowhere ≡ place_of tree r) [ None ↦ λ none. refl | Some path ↦ λ none. absurd (false≢true (sym none)) ] other

pub place_is : (tree : List Entry) (text : List ℕ) → is_some (path_of text) ≡ true
    → place_or_gap tree (spelt text) (node_at tree (spelt text)) ≡ place tree text
unfolding place place_of
place_is tree text shape = ap (place_of tree) (sym (spelt_is text shape))

-- ---- prefixes, one name at a time from the end

-- a path with fewer names is a prefix of another exactly where it is one of its front
pub is_prefix-front : (upper lower : Path) → length upper < length lower → is_prefix upper (front lower) ≡ is_prefix upper lower
unfolding is_prefix front
is_prefix-front [] lower fewer = refl
is_prefix-front (name ∷ names) [] fewer = absurd (omega arith)
is_prefix-front (name ∷ names) (first ∷ []) fewer = absurd (omega arith)
is_prefix-front (name ∷ names) (first ∷ next ∷ others) fewer = ap (λ b. bytes_eq name first && b) (is_prefix-front names (next ∷ others) (omega arith))

-- a path with at least as many names is a prefix only of itself
pub is_prefix-same : (upper lower : Path) → length lower ≤ length upper → is_prefix upper lower ≡ path_eq upper lower
unfolding is_prefix path_eq
is_prefix-same [] [] fewer = refl
is_prefix-same [] (first ∷ others) fewer = absurd (omega arith)
is_prefix-same (name ∷ names) [] fewer = refl
is_prefix-same (name ∷ names) (first ∷ others) fewer = ap (λ b. bytes_eq name first && b) (is_prefix-same names others (omega arith))

-- nodes of a tree are the same exactly where their paths are
pub path_eq-nodes : (tree : List Entry) (a b : NodeId) → IsTree tree → IsNode tree a → IsNode tree b → eqb b.0 a.0 ≡ path_eq (path_at tree a) (path_at tree b)
path_eq-nodes tree a b listed a_within b_within =
    let by_number : Decides (eqb b.0 a.0) (path_at tree a ≡ path_at tree b) =
    Decides-like (eqb b.0 a.0)
    (λ same. ap (path_at tree) (ap (λ (n : ℕ). let node : NodeId = record { 0 = n } in node) (sym same)))
    (λ same. ap (λ (n : NodeId). n.0) (sym (listed.distinct a b a_within b_within same)))
    (Decides-eqb b.0 a.0) in
    same_from_decides (eqb b.0 a.0) (path_eq (path_at tree a) (path_at tree b)) by_number (path_eq-Decides (path_at tree a) (path_at tree b))

-- a step up from a node that lies deeper
pub climb_step : (tree : List Entry) (upper here up : NodeId) → depth_at tree upper < depth_at tree here → path_at tree up ≡ front (path_at tree here)
    → is_prefix (path_at tree upper) (path_at tree up) ≡ is_prefix (path_at tree upper) (path_at tree here)
unfolding depth_at
climb_step tree upper here up deeper is = ap (is_prefix (path_at tree upper)) is ∙ is_prefix-front (path_at tree upper) (path_at tree here) deeper

-- at a node that lies no deeper
pub climb_end : (tree : List Entry) (upper here : NodeId) → IsTree tree → IsNode tree upper → IsNode tree here → depth_at tree here ≤ depth_at tree upper
    → eqb here.0 upper.0 ≡ is_prefix (path_at tree upper) (path_at tree here)
unfolding depth_at
climb_end tree upper here listed upper_within here_within above =
    path_eq-nodes tree upper here listed upper_within here_within ∙ sym (is_prefix-same (path_at tree upper) (path_at tree here) above)

-- the root lies no deeper than any other node
pub root_depth : (tree : List Entry) (upper here : NodeId) → path_at tree here ≡ [] → depth_at tree here ≤ depth_at tree upper
unfolding depth_at
root_depth tree upper here top = let none = ap length top in omega arith

-- ---- the root alone

pub root_tree : IsTree (root ∷ [])
unfolding path_at is_path text_of
root_tree = record {
  begins = (omega arith, refl);
  paths = λ here within. let first : here.0 ≡ 0 = omega arith in ap (λ n. is_path (get_or (root ∷ []) n root).path) first;
  distinct = λ a b a_within b_within same. let first : a.0 ≡ b.0 = omega arith in ap node first;
  above = λ here within later. absurd (omega arith);
}

pub path_eq-root : (path : Path) → path_eq path [] ≡ path_eq [] path
unfolding path_eq
path_eq-root [] = refl
path_eq-root (name ∷ names) = refl
