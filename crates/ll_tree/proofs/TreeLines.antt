-- The first fault of an object is told by the place that its path names.
use Rattle.std.proofs.Common.{◌≡◌, ℕ, suc, ◌∷◌, [], ◌++◌, List, length, Bool, true, false, ◌||◌, Option, Some, None, Result, Ok, Err, cond, ltb, refl, sym, ap}
use Rattle.std.proofs.Common.{◌∙◌, inl, inr, get_or, arith}
use Rattle.std.specs.Prelude.{◌≢◌, not, is_some, IfOk, IfErr}
use Rattle.std.specs.Option.{option_map}
use Rattle.std.proofs.lemmas.Bool.{cases_Bool, false≢true}
use Rattle.ll_rights.specs.declared.kind.Kind.{Kind}
use Rattle.ll_lines.specs.declared.fault.Cause.{Cause}
use Rattle.ll_lines.specs.declared.fault.Cause.TheVariants.{Twice, NoParent, TooMany, Memory}
use Rattle.ll_lines.specs.declared.fault.ReadFault.{ReadFault}
use Rattle.ll_tree.specs.declared.tree.TheConstants.{MOST_NODES}
use Rattle.ll_tree.specs.declared.place.NodeId.{NodeId}
use Rattle.ll_tree.specs.declared.place.Place.{Place}
use Rattle.ll_tree.specs.declared.place.Place.TheVariants as places
use Rattle.ll_lines.specs.Paths.{Path, path_of, path_eq, front}
use Rattle.ll_tree.specs.Trees.{Entry, root, is_dir, is_dir_in, kind_at, position_of, node_at, gap_in, place_or_gap, place_of, place}
use Rattle.ll_tree.specs.TreeFacts.{spelt, named, IsTree}
use Rattle.ll_lines.specs.LineByLine.{with_entry, add_unless, reading, GivesReading, ReadsInOneWay}
use Rattle.ll_lines.specs.Reading.{IsBad}
use Rattle.ll_tree.specs.TreeReading.{is_listed, fault_in, tree_format, IsTreeOf}
use Rattle.ll_tree.specs.Kept.{below_root, IsRooted}
use Rattle.ll_lines.proofs.ReadingLemmas.{good_from_reading, bad_from_fault, in_one_way as format_in_one_way}
use Rattle.ll_tree.proofs.Positions.{spelt_is, at_position, place_of_dir, is_dir_in-from_index, node, position_is}

-- a tree is the root and what is below it
pub rooted : (tree : List Entry) → IsTree tree → root ∷ below_root tree ≡ tree
rooted [] listed = absurd (let some = listed.begins.0 in omega arith)
rooted (entry ∷ entries) listed = ap (λ (e : Entry). e ∷ entries) (sym listed.begins.1)

-- one more object is below the root
below_root-push : (tree : List Entry) (entry : Entry) → IsTree tree → below_root (tree ++ entry ∷ []) ≡ below_root tree ++ entry ∷ []
below_root-push [] entry listed = absurd (let some = listed.begins.0 in omega arith)
below_root-push (first ∷ entries) entry listed = refl

is_listed-position : (entries : List Entry) (path : Path) → is_listed entries path ≡ is_some (position_of path entries)
unfolding is_listed position_of
is_listed-position [] path = refl
is_listed-position (entry ∷ entries) path = go (path_eq entry.path path) (position_of path entries) (is_listed-position entries path) where
  go : (same : Bool) (found : Option ℕ) → is_listed entries path ≡ is_some found
      → (same || is_listed entries path) ≡ is_some (cond same (Some 0) (option_map (λ n. suc n) found))
  go true found is = refl
  go false None is = is
  go false (Some n) is = is

-- a directory is in a tree where its path has a node that is one
dir_found : List Entry → Option NodeId → Bool
dir_found tree None = false
dir_found tree (Some up) = is_dir (kind_at tree up)

is_dir_in-found : (tree : List Entry) (path : Path) → IsTree tree → is_dir_in tree path ≡ dir_found tree (node_at tree path)
unfolding dir_found node_at kind_at
is_dir_in-found tree path listed = elim (cases_Bool (is_dir_in tree path)) [
  | inl dir ↦
      let (index, within, is, is_one) = place_of_dir path tree dir in
      let found : position_of path tree ≡ Some index = ap (λ p. position_of p tree) (sym is) ∙ position_is tree index listed within in
      dir ∙ rw found (sym is_one)
  | inr other ↦ other ∙ go (position_of path tree) refl other
]
  where
    go : (found : Option ℕ) → position_of path tree ≡ found → is_dir_in tree path ≡ false → false ≡ dir_found tree (option_map node found)
    go None eq other = refl
    go (Some index) eq other = elim (cases_Bool (is_dir (get_or tree index root).kind)) [
      | inl dir ↦ let there = at_position path tree index eq in absurd (false≢true (sym other ∙ is_dir_in-from_index path tree index there.0 there.1 dir))
      | inr not ↦ sym not
    ]

-- the fault of an object is told by the place that its path names
unfoldable pub fault_at : List Entry → Place → Option Cause
fault_at tree (places.Node here) = Some Twice
fault_at tree (places.Gap up) = cond (ltb (length tree) MOST_NODES) None (Some TooMany)
fault_at tree places.Nowhere = Some NoParent

gap_fault : (tree : List Entry) (up : Option NodeId)
    → cond (not (dir_found tree up)) (Some NoParent) (cond (ltb (length tree) MOST_NODES) None (Some TooMany)) ≡ fault_at tree (gap_in tree up)
unfolding dir_found fault_at gap_in
gap_fault tree None = refl
gap_fault tree (Some up) =
    elim (is_dir (kind_at tree up)) as (λ b. cond (not b) (Some NoParent) (cond (ltb (length tree) MOST_NODES) None (Some TooMany))
    ≡ fault_at tree (cond b (places.Gap up) places.Nowhere)) [ true ↦ refl | false ↦ refl ]

place_fault : (tree : List Entry) (path : Path) (found : Option ℕ) →
    cond (is_some found) (Some Twice) (cond (not (dir_found tree (node_at tree (front path)))) (Some NoParent)
    (cond (ltb (length tree) MOST_NODES) None (Some TooMany))) ≡ fault_at tree (place_or_gap tree path (option_map node found))
unfolding fault_at place_or_gap
place_fault tree path (Some n) = refl
place_fault tree path None = gap_fault tree (node_at tree (front path))

pub fault_in-place : (tree : List Entry) (text : List ℕ) (kind : Kind) → IsTree tree → is_some (path_of text) ≡ true
    → fault_in tree (named text kind) ≡ fault_at tree (place tree text)
unfolding place place_of node_at fault_in
fault_in-place tree text kind listed shape =
    let path = spelt text in
    rw (spelt_is text shape, is_listed-position tree path, is_dir_in-found tree (front path) listed) (place_fault tree path (position_of path tree))

-- what is listed after an object: the fault that its place tells, or the tree with it
module _ (tree : List Entry) (text : List ℕ) (kind : Kind) (spot : Place) (listed : IsTree tree) (shape : is_some (path_of text) ≡ true)
    (is : spot ≡ place tree text) where
  with_entry-is : (told : Option Cause) → fault_at tree spot ≡ told
      → with_entry tree_format (below_root tree) (named text kind) ≡ add_unless (below_root tree) (named text kind) told
  with_entry-is told fault = ap (λ t. add_unless (below_root tree) (named text kind) (fault_in t (named text kind))) (rooted tree listed)
      ∙ rw (fault_in-place tree text kind listed shape, ← is, fault) refl

  pub with_entry-fault : (cause : Cause) → fault_at tree spot ≡ Some cause → with_entry tree_format (below_root tree) (named text kind) ≡ Err cause
  with_entry-fault cause fault = with_entry-is (Some cause) fault

  pub with_entry-added : (later : List Entry) → fault_at tree spot ≡ None → later ≡ tree ++ named text kind ∷ []
      → with_entry tree_format (below_root tree) (named text kind) ≡ Ok (below_root later)
  with_entry-added later fault added = with_entry-is None fault ∙ ap Ok (sym (ap below_root added ∙ below_root-push tree (named text kind) listed))

pub rooted_later : (tree later : List Entry) (entry : Entry) → IsTree tree → later ≡ tree ++ entry ∷ [] → IsRooted later
rooted_later tree later entry listed added =
    added ∙ ap (λ es. es ++ entry ∷ []) (sym (rooted tree listed)) ∙ ap (λ es. root ∷ es) (sym (ap below_root added ∙ below_root-push tree entry listed))

-- what a reader answers is what the file is
pub is_tree_of : (bytes : List ℕ) (outcome : Result (List Entry) ReadFault) → GivesReading below_root outcome (reading tree_format bytes)
    → IfOk outcome IsRooted → IfOk outcome (IsTreeOf bytes)
is_tree_of bytes (Ok tree) reads is = (below_root tree, is, good_from_reading tree_format bytes (below_root tree) reads)
is_tree_of bytes (Err fault) reads is = tt

pub is_bad : (bytes : List ℕ) (outcome : Result (List Entry) ReadFault) → GivesReading below_root outcome (reading tree_format bytes)
    → IfErr outcome (λ fault. fault.cause ≢ Memory → IsBad tree_format bytes fault)
is_bad bytes (Ok tree) reads = tt
is_bad bytes (Err fault) reads = λ other. bad_from_fault tree_format bytes fault reads other

-- a tree file is read in one way
pub in_one_way : ReadsInOneWay tree_format IsTreeOf
in_one_way = format_in_one_way tree_format IsTreeOf (λ entries. root ∷ entries) (λ bytes entries good. (entries, refl, good))
    (λ bytes tree is. record { entries = is.0; good = is.2; is = is.1 })
