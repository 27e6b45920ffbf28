-- The names in the reason for a moot call are those of the call.
use Rattle.std.proofs.Common.{◌≡◌, ℕ, eqb, zero, suc, Bool, true, false, List, [], ◌∷◌, Option, Some}
use Rattle.std.proofs.Common.{None, IfSome, is_some, length, map, refl, if◌then◌else◌, ap}
use Rattle.std.specs.List.{list_any}
use Rattle.std.specs.Option.{option_map}
use Rattle.ll_tree.specs.declared.place.NodeId.{NodeId}
use Rattle.ll_tree.specs.declared.place.Place.{Place}
use Rattle.ll_tree.specs.declared.place.Place.TheVariants.{Node, Gap, Nowhere}
use Rattle.ll_lines.specs.Paths.{Path, front, is_prefix, path_eq}
use Rattle.ll_tree.specs.Trees.{Entry, kind_at, is_dir, node_at, place}
use Rattle.ll_tree.proofs.Positions.{path_eq-same}
use Rattle.ll_trace.specs.declared.op.Op.{Op}
use Rattle.ll_trace.specs.declared.op.Op.TheVariants as calls
use Rattle.ll_semantics.specs.declared.request.Wanted.{Wanted}
use Rattle.ll_semantics.specs.declared.request.Wanted.TheVariants.{Make, Unlink, Rmdir}
use Rattle.ll_semantics.specs.Requests.{wanted}
use Rattle.ll_semantics.specs.Moves.{is_above, is_root}
use Rattle.ll_reasons.specs.Origins.{Origins}
use Rattle.ll_reasons.specs.Reasons.{Reason, absent, no_directory, of_kind, root, unmoved, beneath_itself, over_itself, mixed}
use Rattle.ll_reasons.specs.Reasons.{open_already, unopened, not_for_writing}
use Rattle.ll_reasons.specs.Reasons.{spelt, or_above, ends_at, nowhere, no_object, unsuited, unmet, onto, moved_to, unrenamed, linked_to, unlinked, reason}
use Rattle.ll_reasons.specs.CallNames.{descriptor_of, is_named, is_on_the_way, named_paths, paths_of, ruleset_number}
use Rattle.ll_reasons.specs.ReasonsHold.{IsAbout}
use Rattle.ll_rules.proofs.Climbs.{prefix-same, prefix-trans}
use Rattle.ll_reasons.proofs.Enough.{any_more, or_left, or_right}
use Rattle.ll_reasons.proofs.Gains.{prefix-front}

-- ---- lists of paths

front_on_the_way : (op : Op) (path : Path) → is_on_the_way op path ≡ true → is_on_the_way op (front path) ≡ true
front_on_the_way op path is =
    any_more (is_prefix path) (is_prefix (front path))
    (λ whole prefix. prefix-trans (front path) path whole (prefix-front path) prefix) (named_paths op) is

by_choice : (P : Reason → Type 0) (b : Bool) (x y : Reason) → P x → P y → P (if b then x else y)
by_choice P true x y first second = first
by_choice P false x y first second = second

-- ---- the way to a path

module _ (tree : List Entry) (op : Op) where
  ends_about : (n : ℕ) (path : Path) → is_on_the_way op path ≡ true → IsAbout op (ends_at tree n path)
  unfolding ends_at IsAbout
  ends_about zero path on = on
  ends_about (suc n) path on = by_above (node_at tree (front path)) (ends_about n (front path) (front_on_the_way op path on))
    where
      by_above : (above : Option NodeId) → IsAbout op (ends_at tree n (front path)) → IsAbout op (or_above tree path above (ends_at tree n (front path)))
      by_above None rest = rest
      by_above (Some node) rest =
          by_choice (IsAbout op) (is_dir (kind_at tree node)) (absent path) (no_directory (front path)) on (front_on_the_way op path on)

  nowhere_about : (path : Path) → is_on_the_way op path ≡ true → IsAbout op (nowhere tree path)
  nowhere_about path on = ends_about (length path) path on

  no_object_about : (path : Path) (spot : Place) → is_named op path ≡ true → is_on_the_way op path ≡ true → IsAbout op (no_object tree path spot)
  unfolding no_object IsAbout
  no_object_about path (Node node) is on = is
  no_object_about path (Gap directory) is on = on
  no_object_about path Nowhere is on = nowhere_about path on

  unsuited_about : (path : Path) (node : NodeId) (want : Wanted) → is_named op path ≡ true → IsAbout op (unsuited tree path node want)
  unfolding unsuited IsAbout
  unsuited_about path node (Make rights) is = is
  unsuited_about path node Unlink is = by_choice (IsAbout op) (is_root node) root (of_kind path (kind_at tree node)) tt is
  unsuited_about path node Rmdir is = by_choice (IsAbout op) (is_root node) root (of_kind path (kind_at tree node)) tt is
  unsuited_about path node want is = is

  unmet_about : (path : Path) (spot : Place) (want : Wanted) → is_named op path ≡ true → is_on_the_way op path ≡ true
      → IsAbout op (unmet tree path spot want)
  unfolding unmet IsAbout
  unmet_about path (Node node) want is on = unsuited_about path node want is
  unmet_about path (Gap directory) want is on = on
  unmet_about path Nowhere want is on = nowhere_about path on

-- ---- a path that a call names

first_named : (path : Path) (others : List Path) → list_any (path_eq path) (path ∷ others) ≡ true
first_named path others = or_left (path_eq path path) (list_any (path_eq path) others) (path_eq-same path path refl)

second_named : (first path : Path) → list_any (path_eq path) (first ∷ path ∷ []) ≡ true
second_named first path = or_right (path_eq path first) (list_any (path_eq path) (path ∷ [])) (first_named path [])

first_on : (path : Path) (others : List Path) → list_any (is_prefix path) (path ∷ others) ≡ true
first_on path others = or_left (is_prefix path path) (list_any (is_prefix path) others) (prefix-same path)

second_on : (first path : Path) → list_any (is_prefix path) (first ∷ path ∷ []) ≡ true
second_on first path = or_right (is_prefix path first) (list_any (is_prefix path) (path ∷ [])) (first_on path [])

-- ---- moves

module _ (tree : List Entry) (op : Op) (from to : Path) (are : named_paths op ≡ from ∷ to ∷ []) where
  from_named : is_named op from ≡ true
  from_named = rw are (first_named from (to ∷ []))

  to_named : is_named op to ≡ true
  to_named = rw are (second_named from to)

  from_on : is_on_the_way op from ≡ true
  from_on = rw are (first_on from (to ∷ []))

  to_on : is_on_the_way op to ≡ true
  to_on = rw are (second_on from to)

  onto_about : (moved there : NodeId) → IsAbout op (onto tree from moved to there)
  unfolding onto IsAbout
  onto_about moved there =
      by_choice (IsAbout op) (is_root there) root _ tt
      (by_choice (IsAbout op) (eqb moved.0 there.0) (unmoved from) _ from_named
      (by_choice (IsAbout op) (is_above tree moved there) (beneath_itself from to) _ are
      (by_choice (IsAbout op) (is_above tree there moved) (over_itself from to) (mixed from to) are are)))

  moved_to_about : (moved : NodeId) (spot : Place) (exchange : Bool) → IsAbout op (moved_to tree from moved to spot exchange)
  unfolding moved_to IsAbout
  moved_to_about moved (Node there) exchange = onto_about moved there
  moved_to_about moved (Gap directory) exchange = by_choice (IsAbout op) exchange (absent to) (beneath_itself from to) to_on are
  moved_to_about moved Nowhere exchange = nowhere_about tree op to to_on

  unrenamed_about : (at_from at_to : Place) (exchange : Bool) → IsAbout op (unrenamed tree from at_from to at_to exchange)
  unfolding unrenamed IsAbout
  unrenamed_about (Node moved) at_to exchange =
      by_choice (IsAbout op) (is_root moved) root (moved_to tree from moved to at_to exchange) tt (moved_to_about moved at_to exchange)
  unrenamed_about (Gap directory) at_to exchange = from_on
  unrenamed_about Nowhere at_to exchange = nowhere_about tree op from from_on

  linked_to_about : (moved : NodeId) (spot : Place) → IsAbout op (linked_to tree from moved to spot)
  unfolding linked_to IsAbout
  linked_to_about moved (Node there) = to_named
  linked_to_about moved (Gap directory) = from_named
  linked_to_about moved Nowhere = nowhere_about tree op to to_on

  unlinked_about : (at_from at_to : Place) → IsAbout op (unlinked tree from at_from to at_to)
  unfolding unlinked IsAbout
  unlinked_about (Node moved) at_to = by_choice (IsAbout op) (is_root moved) root (linked_to tree from moved to at_to) tt (linked_to_about moved at_to)
  unlinked_about (Gap directory) at_to = from_on
  unlinked_about Nowhere at_to = nowhere_about tree op from from_on

-- ---- every call

one_path : (op : Op) (path : Path) → named_paths op ≡ path ∷ [] → (is_named op path ≡ true) × (is_on_the_way op path ≡ true)
one_path op path are = (rw are (first_named path []), rw are (first_on path []))

paths_wanted : (op : Op) (want : List ℕ × Wanted) → wanted op ≡ Some want → paths_of op ≡ want.0 ∷ []
unfolding wanted paths_of
paths_wanted (calls.AddPath rs path fs) want is = cc
paths_wanted op want is = cc

wanted_about : (tree : List Entry) (op : Op) (want : Option (List ℕ × Wanted)) → wanted op ≡ want
    → IfSome (option_map (λ w. unmet tree (spelt w.0) (place tree w.0) w.1) want) (IsAbout op)
wanted_about tree op None is = tt
wanted_about tree op (Some want) is =
    let named = one_path op (spelt want.0) (ap (λ (texts : List (List ℕ)). map spelt texts) (paths_wanted op want is)) in
    unmet_about tree op (spelt want.0) (place tree want.0) want.1 named.0 named.1

pub reason_about : (tree : List Entry) (o : Origins) (op : Op) → IfSome (reason tree o op) (IsAbout op)
unfolding reason IsAbout paths_of descriptor_of ruleset_number
reason_about tree o (calls.Create rs fs net) = refl
reason_about tree o (calls.AddPath rs path fs) =
    let named = one_path (calls.AddPath rs path fs) (spelt path) refl in
    no_object_about tree (calls.AddPath rs path fs) (spelt path) (place tree path) named.0 named.1
reason_about tree o (calls.CloseRs rs) = refl
reason_about tree o (calls.OpenFile path fd mode create trunc) =
    let op : Op = calls.OpenFile path fd mode create trunc in
    let named = one_path op (spelt path) refl in
    by_choice (IsAbout op) (is_some (o.openings fd)) (open_already fd) (no_object tree (spelt path) (place tree path)) refl
    (no_object_about tree op (spelt path) (place tree path) named.0 named.1)
reason_about tree o (calls.Adopt fd kind) = refl
reason_about tree o (calls.Dup fd to) = refl
reason_about tree o (calls.Close fd) = refl
reason_about tree o (calls.Ftruncate fd) =
    by_choice (IsAbout (calls.Ftruncate fd)) (is_some (o.openings fd)) (not_for_writing fd) (unopened fd) refl refl
reason_about tree o (calls.Ioctl fd driver) = refl
reason_about tree o (calls.Rename from to exchange) =
    unrenamed_about tree (calls.Rename from to exchange) (spelt from) (spelt to) refl (place tree from) (place tree to) exchange
reason_about tree o (calls.Link from to) = unlinked_about tree (calls.Link from to) (spelt from) (spelt to) refl (place tree from) (place tree to)
reason_about tree o (calls.CreateEmpty rs) = refl
reason_about tree o (calls.Restrict rs) = tt
reason_about tree o (calls.LeaveOutPath path) = tt
reason_about tree o calls.LeaveOutPort = tt
reason_about tree o op = wanted_about tree op (wanted op) refl
