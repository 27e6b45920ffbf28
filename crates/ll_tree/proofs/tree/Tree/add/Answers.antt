-- A new object keeps the tree sound; a refused growth changes nothing.
use Rattle.std.proofs.Common.{◌≡◌, ◌+◌, ◌++◌, subst, ◌∷◌, [], Some, ap, ◌∙◌, refl, sym, arith, Result, Ok, Err, OnErr}
use Rattle.ll_tree.specs.declared.tree.Object.{Object}
use Rattle.ll_tree.specs.TreeFacts.{named, IsTree}
use Rattle.ll_tree.specs.Kept.{IsSound, entries_of}
use Rattle.ll_tree.specs.Chains.{text_mark, slot_in, head_in}
use Rattle.ll_tree.proofs.Keeping.{gap_node, depth_small, pushed}
use Rattle.ll_tree.proofs.tree.Tree.add.Goals as goal
use Rattle.ll_tree.proofs.tree.Tree.add.Goals.{After-push_reserved}

pub depth-depth-requires : goal.depth-depth-requires
depth-depth-requires c =
    gap_node c.args.self.now c.args.text.now c.args.kind c.args.parent (subst IsTree c.self.view_is c.self.invariant.listed) c.requires.path c.requires.gap

pub overflow_add-depth : goal.overflow_add-depth
overflow_add-depth c =
    let listed = subst IsTree c.self.view_is c.self.invariant.listed in
    let small = depth_small c.args.self.now c.args.parent listed
    (gap_node c.args.self.now c.args.text.now c.args.kind c.args.parent listed c.requires.path c.requires.gap) in
    omega (arith, small, c.depth-depth.ensures)

pub invariant_of-self-in_err-insert : goal.invariant_of-self-in_err-insert
invariant_of-self-in_err-insert c = rw (c.reserve.ensures.items, c.in_err-insert.ensures.err) c.self.invariant

on_err : {T E : Type 0} (outcome : Result T E) (P : Type 0) → P → OnErr outcome P
on_err (Ok value) P holds = tt
on_err (Err error) P holds = holds

pub returns-in_err-insert-clause-err : goal.returns-in_err-insert-clause-err
returns-in_err-insert-clause-err c = on_err c.from_residual-in_err-insert.result _ (ap entries_of c.reserve.ensures.items ∙ c.self.view_is)

-- what was put
both_facts : (c : After-push_reserved) → IsSound c.push_reserved.new.self.items c.insert.new.self.entries c.set_head.new.heads.items
    × (entries_of c.push_reserved.new.self.items ≡ c.args.self.now ++ named c.args.text.now c.args.kind ∷ [])
both_facts c =
    let object : Object = record {
      text = c.in_ok-kept.kept;
      kind = c.args.kind;
      parent = Some c.args.parent;
      depth = c.depth-depth.result + 1;
      mark = c.mark_of-mark.result;
      next = c.next_of.result;
      behind = c.behind-behind.result;
    } in
    let slot : c.slot_of-slot.result ≡ slot_in (text_mark c.args.text.now) = c.slot_of-slot.ensures ∙ ap slot_in c.mark_of-mark.ensures in
    let before : c.head-before.result ≡ head_in c.self.inside.heads.items (slot_in (text_mark c.args.text.now)) =
    c.head-before.ensures ∙ rw (c.deref.ensures.value, slot) refl in
    let facts =
    pushed c.self.inside.objects.items c.args.self.now c.self.view_is c.self.inside.numbers c.insert.new.self c.in_ok-key.key object c.args.parent
    c.nodes-number.result c.self.inside.heads.items c.set_head.new.heads.items c.self.invariant c.requires.room
    (rw c.in_ok-kept.ensures.ok c.requires.path) (rw c.in_ok-kept.ensures.ok c.requires.gap) (c.in_ok-key.ensures.ok ∙ sym c.in_ok-kept.ensures.ok)
    c.nodes-number.ensures.count refl (ap (λ n. n + 1) c.depth-depth.ensures)
    (rw c.in_ok-kept.ensures.ok c.mark_of-mark.ensures) c.next_of.ensures.falls
    (λ node earlier under. c.next_of.ensures.ahead node earlier (rw before (rw c.in_ok-kept.ensures.ok at under)))
    (rw (c.in_ok-kept.ensures.ok, ← slot) (omega (arith, c.head_over.ensures, c.set_head.ensures.this)))
    (λ other differs. c.set_head.ensures.others other (λ same. differs (rw c.in_ok-kept.ensures.ok (same ∙ slot))))
    c.in_ok-insert.ensures.updates in
    rw (rw c.reserve.ensures.items at c.push_reserved.ensures.items, ← c.in_ok-kept.ensures.ok) facts

pub invariant_of-self-2 : goal.invariant_of-self-2
invariant_of-self-2 c = (both_facts c).0

pub returns-clause-ok : goal.returns-clause-ok
returns-clause-ok c = (both_facts c).1
