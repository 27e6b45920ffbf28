-- What the reason for a moot call says is so.
use Rattle.std.proofs.Common.{◌≡◌, ℕ, zero, suc, ◌≤◌, ◌==◌, Bool, true, false, List, [], ◌∷◌, length, Option, Some, None, is_some, refl, sym, ap, ◌∙◌, subst}
use Rattle.std.proofs.Common.{subst₂, inl, inr, arith, IfSome, IsSomeAnd, if◌then◌else◌}
use Rattle.std.specs.List.{list_any, list_all}
use Rattle.std.specs.Option.{option_map}
use Rattle.std.proofs.lemmas.Bool.{cases_Bool}
use Rattle.std.proofs.lemmas.Option.{none-some, same_Some}
use Rattle.ll_rights.specs.declared.abi.Abi.{Abi}
use Rattle.ll_rights.specs.declared.fs.Fs.{Fs}
use Rattle.ll_rights.specs.declared.net.Net.{Net}
use Rattle.ll_rules.specs.declared.errno.Errno.TheVariants.{Acces, Perm}
use Rattle.ll_rules.specs.declared.moves.Move.{Move}
use Rattle.ll_rules.specs.Moves.{move_verdict}
use Rattle.ll_tree.specs.declared.place.NodeId.{NodeId}
use Rattle.ll_tree.specs.declared.place.Place.{Place}
use Rattle.ll_tree.specs.declared.place.Place.TheVariants.{Node, Gap, Nowhere}
use Rattle.ll_lines.specs.Paths.{Path, front, is_prefix, path_of}
use Rattle.ll_tree.specs.Trees.{Entry, path_at, kind_at, is_dir, node_at, position_of, place}
use Rattle.ll_tree.proofs.Positions.{at_position}
use Rattle.ll_trace.specs.declared.op.Op.{Op}
use Rattle.ll_trace.specs.declared.op.Op.TheVariants as calls
use Rattle.ll_trace.specs.declared.op.Sort.{Sort}
use Rattle.ll_trace.specs.declared.op.Sort.TheVariants.{Regular, Device, Other}
use Rattle.ll_semantics.specs.declared.answer.Answer.TheVariants.{Allowed, Moot}
use Rattle.ll_semantics.specs.declared.answer.Descriptor.{Descriptor}
use Rattle.ll_semantics.specs.declared.request.Wanted.{Wanted}
use Rattle.ll_semantics.specs.declared.request.Wanted.TheVariants.{Make, Unlink, Rmdir}
use Rattle.ll_semantics.specs.Requests.{wanted}
use Rattle.ll_semantics.specs.Moves.{is_above, is_root, is_mixed, rename_move, rename_to, rename_into, rename_onto}
use Rattle.ll_semantics.specs.States.{State, Layer}
use Rattle.ll_semantics.specs.Answers as answers
use Rattle.ll_trace.specs.declared.op.Record.{Record}
use Rattle.ll_semantics.specs.Worlds.{World, answer_in}
use Rattle.ll_semantics.specs.CallContexts.{world_at}
use Rattle.ll_reasons.specs.Origins.{Origins}
use Rattle.ll_reasons.specs.Explanations.{origins_at}
use Rattle.ll_reasons.proofs.DescriptorsMade.{descriptor_open}
use Rattle.ll_reasons.specs.Reasons.{Reason, absent, of_kind, root, unmoved, beneath_itself, over_itself, mixed, open_already, unopened, not_for_writing, spelt}
use Rattle.ll_reasons.specs.Reasons.{beside, or_above, ends_at, nowhere, no_object, unsuited, unmet, onto, moved_to, unrenamed, linked_to, unlinked, reason}
use Rattle.ll_reasons.specs.Made.{is_restrict}
use Rattle.ll_reasons.specs.ReasonsHold.{paths_of, are_spelt, is_left_out, is_at_root, is_at_one, names_one_twice, is_regular, Holds, IsAbout, IsSo}
use Rattle.ll_reasons.proofs.Placed.{Placed, text_placed}
use Rattle.ll_reasons.proofs.ReasonsAbout.{reason_about}
use Rattle.ll_reasons.proofs.Enough.{and_both, or_left, or_right}
use Rattle.ll_rules.proofs.Climbs.{prefix-trans}
use Rattle.ll_reasons.proofs.Gains.{prefix-front}
use Rattle.ll_reasons.proofs.Shapes.{never_moot, can_refused_by, can_verdict, can_unless, can_ioctl_kept, can_add_port}

-- ---- the tree

node_path : (tree : List Entry) (path : Path) (node : NodeId) → node_at tree path ≡ Some node → path_at tree node ≡ path
unfolding node_at path_at
node_path tree path node is = by_position (position_of path tree) refl is
  where
    by_position : (o : Option ℕ) → position_of path tree ≡ o → ◌≡◌ {A = Option NodeId} (option_map (λ index. record { 0 = index }) o) (Some node)
        → path_at tree node ≡ path
    by_position None eq is = absurd (none-some node is)
    by_position (Some index) eq is = subst (λ (n : NodeId). path_at tree n ≡ path) (same_Some (record { 0 = index }) node is) (at_position path tree index eq).1

shorter : (path : Path) (n : ℕ) → length path ≤ suc n → length (front path) ≤ n
unfolding front
shorter [] n less = omega arith
shorter (name ∷ []) n less = omega arith
shorter (name ∷ next ∷ names) zero less = absurd (omega arith)
shorter (name ∷ next ∷ names) (suc n) less = (let rest : length (front (next ∷ names)) ≤ n = shorter (next ∷ names) n (omega arith) in omega (arith, rest))

beside_holds : (tree : List Entry) (s : State) (op : Op) (path : Path) (above : NodeId) → node_at tree path ≡ None → node_at tree (front path) ≡ Some above
    → IsSo tree s op (beside tree path above)
unfolding IsSo
beside_holds tree s op path above none is = elim (cases_Bool (is_dir (kind_at tree above))) [
  | inl holds ↦ rw holds (none, (above, is, holds))
  | inr fails ↦ rw fails (above, is, fails)
]

ends_hold : (tree : List Entry) (s : State) (op : Op) (n : ℕ) (path : Path) → is_some (node_at tree []) ≡ true → length path ≤ n → node_at tree path ≡ None
    → IsSo tree s op (ends_at tree n path)
unfolding ends_at
ends_hold tree s op zero [] there less none = (let both : false ≡ true = sym (ap (λ (o : Option NodeId). is_some o) none) ∙ there in cc)
ends_hold tree s op zero (name ∷ names) there less none = absurd (omega arith)
ends_hold tree s op (suc n) path there less none =
    by_above (node_at tree (front path)) refl (λ gone. ends_hold tree s op n (front path) there (shorter path n less) gone)
  where
    by_above : (above : Option NodeId) → node_at tree (front path) ≡ above → (node_at tree (front path) ≡ None → IsSo tree s op (ends_at tree n (front path)))
        → IsSo tree s op (or_above tree path above (ends_at tree n (front path)))
    by_above None is rest = rest is
    by_above (Some above) is rest = beside_holds tree s op path above none is

module _ (tree : List Entry) (s : State) (op : Op) (there : is_some (node_at tree []) ≡ true) where
  nowhere_holds : (path : Path) → node_at tree path ≡ None → IsSo tree s op (nowhere tree path)
  nowhere_holds path none = ends_hold tree s op (length path) path there (omega arith) none

  gap_holds : (path : Path) (directory : NodeId) → Placed tree path (Gap directory) → IsSo tree s op (absent path)
  unfolding Placed IsSo
  gap_holds path directory is = (is.0, (directory, is.1, is.2))

  no_object_holds : (path : Path) (spot : Place) → Placed tree path spot → IsSo tree s op (no_object tree path spot)
  unfolding Placed IsSo no_object
  no_object_holds path (Node node) is = (node, is, refl)
  no_object_holds path (Gap directory) is = gap_holds path directory is
  no_object_holds path Nowhere is = nowhere_holds path is

  kind_holds : (path : Path) (node : NodeId) → node_at tree path ≡ Some node → IsSo tree s op (of_kind path (kind_at tree node))
  unfolding IsSo
  kind_holds path node is = (node, is, refl)

  by_root : (b : Bool) (other : Reason) → (b ≡ true → IsSo tree s op root) → IsSo tree s op other → IsSo tree s op (if b then root else other)
  by_root true other of_root rest = of_root refl
  by_root false other of_root rest = rest

  unsuited_holds : (path : Path) (node : NodeId) (want : Wanted) → node_at tree path ≡ Some node → (is_root node ≡ true → IsSo tree s op root)
      → IsSo tree s op (unsuited tree path node want)
  unfolding unsuited IsSo
  unsuited_holds path node (Make rights) is of_root = ap (λ (o : Option NodeId). is_some o) is
  unsuited_holds path node Unlink is of_root = by_root (is_root node) (of_kind path (kind_at tree node)) of_root (kind_holds path node is)
  unsuited_holds path node Rmdir is of_root = by_root (is_root node) (of_kind path (kind_at tree node)) of_root (kind_holds path node is)
  unsuited_holds path node want is of_root = kind_holds path node is

  unmet_holds : (path : Path) (spot : Place) (want : Wanted) → Placed tree path spot → (is_at_root spot ≡ true → IsSo tree s op root)
      → IsSo tree s op (unmet tree path spot want)
  unfolding Placed unmet
  unmet_holds path (Node node) want is of_root = unsuited_holds path node want is of_root
  unmet_holds path (Gap directory) want is of_root = gap_holds path directory is
  unmet_holds path Nowhere want is of_root = nowhere_holds path is

  -- ---- moves

  by_onto : (from to : Path) (r e a b x m : Bool) (one another : Move) → (r ≡ true → IsSo tree s op root) → (e ≡ true → IsSo tree s op (unmoved from))
      → (a ≡ true → IsSo tree s op (beneath_itself from to)) → (b ≡ true → IsSo tree s op (over_itself from to))
      → (m ≡ true → IsSo tree s op (mixed from to))
      → (if r then None else (if a then None else (if b then None else (if x then Some one else (if m then None else Some another))))) ≡ None
      → IsSo tree s op (if r then root
      else (if e then unmoved from else (if a then beneath_itself from to else (if b then over_itself from to else mixed from to))))
  by_onto from to true e a b x m one another is_r is_e is_a is_b is_m moot = is_r refl
  by_onto from to false true a b x m one another is_r is_e is_a is_b is_m moot = is_e refl
  by_onto from to false false true b x m one another is_r is_e is_a is_b is_m moot = is_a refl
  by_onto from to false false false true x m one another is_r is_e is_a is_b is_m moot = is_b refl
  by_onto from to false false false false true m one another is_r is_e is_a is_b is_m moot = absurd (none-some one (sym moot))
  by_onto from to false false false false false true one another is_r is_e is_a is_b is_m moot = is_m refl
  by_onto from to false false false false false false one another is_r is_e is_a is_b is_m moot = absurd (none-some another (sym moot))

  above_paths : (from to : Path) (a b : NodeId) → path_at tree a ≡ from → path_at tree b ≡ to → is_above tree a b ≡ true → is_prefix from to ≡ true
  above_paths from to a b is_a is_b above = subst₂ (λ (x y : Path). is_prefix x y ≡ true) is_a is_b above

  onto_holds : (from to : Path) (moved old : NodeId) (exchange : Bool) → node_at tree from ≡ Some moved
      → node_at tree to ≡ Some old → (is_root old ≡ true → IsSo tree s op root) → ((moved.0 == old.0) ≡ true → IsSo tree s op (unmoved from))
      → rename_onto tree moved old exchange ≡ None → IsSo tree s op (onto tree from moved to old)
  unfolding onto rename_onto IsSo
  onto_holds from to moved old exchange is_from is_to of_root of_one moot =
      by_onto from to (is_root old) (moved.0 == old.0) (is_above tree moved old) (is_above tree old moved) exchange (is_mixed tree moved old) _ _ of_root of_one
      (λ above. above_paths from to moved old (node_path tree from moved is_from) (node_path tree to old is_to) above)
      (λ above. above_paths to from old moved (node_path tree to old is_to) (node_path tree from moved is_from) above)
      (λ both. (moved, old, is_from, is_to, both)) moot

  by_gap : (from to : Path) (x a : Bool) (one : Move) → IsSo tree s op (absent to) → (a ≡ true → IsSo tree s op (beneath_itself from to))
      → (if x then None else (if a then None else Some one)) ≡ None → IsSo tree s op (if x then absent to else beneath_itself from to)
  by_gap from to true a one gone is_a moot = gone
  by_gap from to false true one gone is_a moot = is_a refl
  by_gap from to false false one gone is_a moot = absurd (none-some one (sym moot))

  into_holds : (from to : Path) (moved directory : NodeId) (exchange : Bool) → node_at tree from ≡ Some moved → Placed tree to (Gap directory)
      → rename_into tree moved directory exchange ≡ None → IsSo tree s op (if exchange then absent to else beneath_itself from to)
  unfolding rename_into Placed IsSo
  into_holds from to moved directory exchange is_from is_to moot =
      by_gap from to exchange (is_above tree moved directory) _ (gap_holds to directory is_to)
      (λ above. prefix-trans from (front to) to (above_paths from (front to) moved directory (node_path tree from moved is_from)
      (node_path tree (front to) directory is_to.1) above) (prefix-front to)) moot

  moved_to_holds : (from to : Path) (moved : NodeId) (spot : Place) (exchange : Bool) → node_at tree from ≡ Some moved
      → Placed tree to spot → (is_at_root spot ≡ true → IsSo tree s op root) → (is_at_one (Node moved) spot ≡ true → IsSo tree s op (unmoved from))
      → rename_to tree moved spot exchange ≡ None → IsSo tree s op (moved_to tree from moved to spot exchange)
  unfolding rename_to moved_to Placed
  moved_to_holds from to moved (Node there) exchange is_from is_to of_root of_one moot =
      onto_holds from to moved there exchange is_from is_to of_root of_one moot
  moved_to_holds from to moved (Gap directory) exchange is_from is_to of_root of_one moot = into_holds from to moved directory exchange is_from is_to moot
  moved_to_holds from to moved Nowhere exchange is_from is_to of_root of_one moot = nowhere_holds to is_to

  by_mover : (b : Bool) (asked : Option Move) (other : Reason) → (b ≡ true → IsSo tree s op root) → (asked ≡ None → IsSo tree s op other)
      → (if b then None else asked) ≡ None → IsSo tree s op (if b then root else other)
  by_mover true asked other of_root rest moot = of_root refl
  by_mover false asked other of_root rest moot = rest moot

  unrenamed_holds : (from to : Path) (at_from at_to : Place) (exchange : Bool) → Placed tree from at_from → Placed tree to at_to
      → (is_at_root at_from ≡ true → IsSo tree s op root) → (is_at_root at_to ≡ true → IsSo tree s op root)
      → (is_at_one at_from at_to ≡ true → IsSo tree s op (unmoved from))
      → rename_move tree at_from at_to exchange ≡ None → IsSo tree s op (unrenamed tree from at_from to at_to exchange)
  unfolding rename_move unrenamed Placed
  unrenamed_holds from to (Node moved) at_to exchange is_from is_to root_from root_to of_one moot =
      by_mover (is_root moved) (rename_to tree moved at_to exchange) (moved_to tree from moved to at_to exchange) root_from
      (λ none. moved_to_holds from to moved at_to exchange is_from is_to root_to of_one none) moot
  unrenamed_holds from to (Gap directory) at_to exchange is_from is_to root_from root_to of_one moot = gap_holds from directory is_from
  unrenamed_holds from to Nowhere at_to exchange is_from is_to root_from root_to of_one moot = nowhere_holds from is_from

  linked_to_holds : (from to : Path) (moved : NodeId) (spot : Place) → node_at tree from ≡ Some moved
      → Placed tree to spot → IsSo tree s op (linked_to tree from moved to spot)
  unfolding linked_to Placed IsSo
  linked_to_holds from to moved (Node there) is_from is_to = ap (λ (o : Option NodeId). is_some o) is_to
  linked_to_holds from to moved (Gap directory) is_from is_to = (moved, is_from, refl)
  linked_to_holds from to moved Nowhere is_from is_to = nowhere_holds to is_to

  unlinked_holds : (from to : Path) (at_from at_to : Place) → Placed tree from at_from → Placed tree to at_to
      → (is_at_root at_from ≡ true → IsSo tree s op root) → IsSo tree s op (unlinked tree from at_from to at_to)
  unfolding unlinked Placed
  unlinked_holds from to (Node moved) at_to is_from is_to of_root =
      by_root (is_root moved) (linked_to tree from moved to at_to) of_root (linked_to_holds from to moved at_to is_from is_to)
  unlinked_holds from to (Gap directory) at_to is_from is_to of_root = gap_holds from directory is_from
  unlinked_holds from to Nowhere at_to is_from is_to of_root = nowhere_holds from is_from

-- ---- what a moot call has not

no_move : (tree : List Entry) (domain : List Layer) (move : Option Move) → answers.of_move tree domain move ≡ Moot → move ≡ None
no_move tree domain None moot = refl
no_move tree domain (Some move) moot = never_moot _ _ _ _ (can_verdict (move_verdict tree domain move)) moot

-- ---- tables

if_there-none : {A : Type 0} (o : Option A) → answers.if_there o ≡ Moot → o ≡ None
if_there-none None moot = refl
if_there-none (Some it) moot = absurd (cc)

if_free-some : {A : Type 0} (o : Option A) → answers.if_free o Allowed ≡ Moot → is_some o ≡ true
if_free-some None moot = absurd (cc)
if_free-some (Some it) moot = refl

create_taken : (abi : Abi) (fs : Fs) (net : Net) (o : Option ℕ) → answers.create_answer abi fs net o ≡ Moot → is_some o ≡ true
unfolding answers.create_answer
create_taken abi fs net None moot = never_moot _ _ _ _ (can_unless false _) moot
create_taken abi fs net (Some index) moot = refl

ioctl_closed : (o : Option Descriptor) (driver : Bool) → answers.ioctl_answer o driver ≡ Moot → o ≡ None
unfolding answers.ioctl_answer
ioctl_closed None driver moot = refl
ioctl_closed (Some held) driver moot = never_moot _ _ _ _ (can_ioctl_kept false held.sort held.kept driver) moot

not_regular : (sort : Sort) (numbers : List ℕ) → answers.truncate_kept sort numbers ≡ Moot → is_regular sort ≡ false
not_regular Regular numbers moot = never_moot _ _ _ _ (can_refused_by false Acces numbers) moot
not_regular Device numbers moot = refl
not_regular Other numbers moot = refl

ftruncate_holds : (tree : List Entry) (s : State) (op : Op) (fd : ℕ) (opening : Bool) (o : Option Descriptor) → opening ≡ is_some o → s.descriptors fd ≡ o
    → answers.ftruncate_answer o ≡ Moot → IsSo tree s op (if opening then not_for_writing fd else unopened fd)
unfolding answers.ftruncate_answer IsSo
ftruncate_holds tree s op fd true None same is moot = cc
ftruncate_holds tree s op fd false None same is moot = is
ftruncate_holds tree s op fd true (Some held) same is moot = (held, is, not_regular held.sort held.kept moot)
ftruncate_holds tree s op fd false (Some held) same is moot = cc

open_holds : (tree : List Entry) (s : State) (op : Op) (fd : ℕ) (opening : Bool) (other : Reason) → opening ≡ is_some (s.descriptors fd) → IsSo tree s op other
    → IsSo tree s op (if opening then open_already fd else other)
unfolding IsSo
open_holds tree s op fd true other same holds = sym same
open_holds tree s op fd false other same holds = holds

-- ---- what a call wants at a path

paths_wanted : (op : Op) (want : List ℕ × Wanted) → wanted op ≡ Some want → paths_of op ≡ want.0 ∷ []
unfolding wanted paths_of
paths_wanted (calls.AddPath rs path fs) want is = cc
paths_wanted op want is = cc

wanted_holds : (tree : List Entry) (s : State) (op : Op) → is_some (node_at tree []) ≡ true → are_spelt op ≡ true → (want : Option (List ℕ × Wanted))
    → wanted op ≡ want → is_some want ≡ true
    → IsSomeAnd (option_map (λ w. unmet tree (spelt w.0) (place tree w.0) w.1) want) (IsSo tree s op)
unfolding are_spelt IsSo
wanted_holds tree s op there are None is some = cc
wanted_holds tree s op there are (Some want) is some =
    let paths : paths_of op ≡ want.0 ∷ [] = paths_wanted op want is in
    let spells = subst (λ (texts : List (List ℕ)). list_all (λ text. is_some (path_of text)) texts ≡ true) paths are in
    unmet_holds tree s op there (spelt want.0) (place tree want.0) want.1
    (text_placed tree want.0 (path_of want.0) refl (and_both (is_some (path_of want.0)) true spells).0)
    (λ here. subst (λ (texts : List (List ℕ)). list_any (λ text. is_at_root (place tree text)) texts ≡ true) (sym paths)
    (or_left (is_at_root (place tree want.0)) false here))

-- ---- every call

pub call_reason : (tree : List Entry) (abi : Abi) (rulesets : List Layer) (op : Op) (s : State) (o : Origins) → is_some (node_at tree []) ≡ true
    → are_spelt op ≡ true → ((fd : ℕ) → is_some (o.openings fd) ≡ is_some (s.descriptors fd))
    → answers.answer tree abi rulesets op s ≡ Moot → IsSomeAnd (reason tree o op) (IsSo tree s op)
unfolding answers.answer reason are_spelt paths_of wanted IsSo is_left_out is_restrict names_one_twice
call_reason tree abi rulesets (calls.Create rs fs net) s o there are same moot = create_taken abi fs net (s.held rs) moot
call_reason tree abi rulesets (calls.AddPath rs path fs) s o there are same moot =
    no_object_holds tree s (calls.AddPath rs path fs) there (spelt path) (place tree path)
    (text_placed tree path (path_of path) refl (and_both (is_some (path_of path)) true are).0)
call_reason tree abi rulesets (calls.AddPort rs port net) s o there are same moot =
    never_moot _ _ _ _ (can_add_port abi port net (answers.named rulesets (s.held rs))) moot
call_reason tree abi rulesets (calls.CloseRs rs) s o there are same moot = if_there-none (s.held rs) moot
call_reason tree abi rulesets (calls.Restrict rs) s o there are same moot = refl
call_reason tree abi rulesets (calls.OpenFile path fd mode create trunc) s o there are same moot =
    open_holds tree s (calls.OpenFile path fd mode create trunc) fd (is_some (o.openings fd)) (no_object tree (spelt path) (place tree path)) (same fd)
    (no_object_holds tree s (calls.OpenFile path fd mode create trunc) there (spelt path) (place tree path)
    (text_placed tree path (path_of path) refl (and_both (is_some (path_of path)) true are).0))
call_reason tree abi rulesets (calls.Adopt fd kind) s o there are same moot = if_free-some (s.descriptors fd) moot
call_reason tree abi rulesets (calls.Dup fd to) s o there are same moot = if_there-none (s.descriptors fd) moot
call_reason tree abi rulesets (calls.Close fd) s o there are same moot = if_there-none (s.descriptors fd) moot
call_reason tree abi rulesets (calls.Ftruncate fd) s o there are same moot =
    ftruncate_holds tree s (calls.Ftruncate fd) fd (is_some (o.openings fd)) (s.descriptors fd) (same fd) refl moot
call_reason tree abi rulesets (calls.Ioctl fd driver) s o there are same moot = ioctl_closed (s.descriptors fd) driver moot
call_reason tree abi rulesets (calls.Rename from to exchange) s o there are same moot =
    let op : Op = calls.Rename from to exchange in
    let parts = and_both (is_some (path_of from)) _ are in
    unrenamed_holds tree s op there (spelt from) (spelt to) (place tree from) (place tree to) exchange
    (text_placed tree from (path_of from) refl parts.0) (text_placed tree to (path_of to) refl (and_both (is_some (path_of to)) true parts.1).0)
    (λ here. or_left (is_at_root (place tree from)) _ here)
    (λ here. or_right (is_at_root (place tree from)) _ (or_left (is_at_root (place tree to)) false here))
    (λ one. one)
    (no_move tree s.domain (rename_move tree (place tree from) (place tree to) exchange) moot)
call_reason tree abi rulesets (calls.Link from to) s o there are same moot =
    let op : Op = calls.Link from to in
    let parts = and_both (is_some (path_of from)) _ are in
    unlinked_holds tree s op there (spelt from) (spelt to) (place tree from) (place tree to)
    (text_placed tree from (path_of from) refl parts.0) (text_placed tree to (path_of to) refl (and_both (is_some (path_of to)) true parts.1).0)
    (λ here. or_left (is_at_root (place tree from)) _ here)
call_reason tree abi rulesets calls.Mount s o there are same moot = never_moot _ _ _ _ (can_refused_by false Perm _) moot
call_reason tree abi rulesets (calls.Bind port) s o there are same moot = never_moot _ _ _ _ (can_refused_by false Acces _) moot
call_reason tree abi rulesets (calls.Connect port) s o there are same moot = never_moot _ _ _ _ (can_refused_by false Acces _) moot
call_reason tree abi rulesets (calls.CreateEmpty rs) s o there are same moot = if_free-some (s.held rs) moot
call_reason tree abi rulesets (calls.LeaveOutPath path) s o there are same moot = refl
call_reason tree abi rulesets calls.LeaveOutPort s o there are same moot = refl
call_reason tree abi rulesets (calls.Start nnp admin) s o there are same moot = absurd (cc)
call_reason tree abi rulesets (calls.Fork child) s o there are same moot = absurd (cc)
call_reason tree abi rulesets calls.Exit s o there are same moot = absurd (cc)
call_reason tree abi rulesets calls.Nnp s o there are same moot = absurd (cc)
call_reason tree abi rulesets op s o there are same moot = wanted_holds tree s op there are (wanted op) refl refl

-- ---- a process at an index

both : {A : Type 0} (P Q : A → Type 0) (o : Option A) → IfSome o P → IsSomeAnd o Q → IsSomeAnd o (λ a. P a × Q a)
both P Q None first second = second
both P Q (Some a) first second = (first, second)

pub reason_at : (tree : List Entry) (abi : Abi) (records : List Record) (index process : ℕ) (op : Op) → is_some (node_at tree []) ≡ true → are_spelt op ≡ true
    → answer_in tree abi (world_at tree abi records index) process op ≡ Moot
    → IsSomeAnd (reason tree (origins_at tree abi records index process) op) (Holds tree ((world_at tree abi records index).processes process) op)
unfolding answer_in
reason_at tree abi records index process op there are moot =
    let w : World = world_at tree abi records index in
    let o : Origins = origins_at tree abi records index process in
    both (IsAbout op) (IsSo tree (w.processes process) op) (reason tree o op) (reason_about tree o op)
    (call_reason tree abi w.rulesets op (w.processes process) o there are (λ fd. descriptor_open tree abi records index process fd) moot)
