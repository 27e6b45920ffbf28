-- The walk, or the map, has the node of each path's text.
use Rattle.std.proofs.Common.{◌≡◌, ◌<◌, ◌-◌, ◌∙◌, ap, subst, rules, sym, refl, length, arith}
use Rattle.std.specs.Option.{option_map, option_copied}
use Rattle.ll_tree.specs.Chains.{text_mark, slot_in}
use Rattle.ll_tree.specs.Kept.{IsOf}
use Rattle.ll_tree.specs.TreeFacts.{spelt, IsTree}
use Rattle.ll_tree.proofs.Positions.{node, found_is, node_at-IsNode, guessed_is}
use Rattle.ll_tree.proofs.Keeping.{length_is, path_is, of_node}
use Rattle.ll_tree.proofs.Walk.{walk_begins, walk_goes, walk_ends, is_of-yes, is_of-no}
use Rattle.ll_tree.proofs.tree.Tree.find.Goals as goal

pub loop-bound-init : goal.loop-bound-init
loop-bound-init c =
    walk_begins c.args.self.now c.args.text.now c.requires c.self.inside.objects.items c.self.inside.numbers.entries c.self.inside.heads.items
    c.head-bound.result c.self.invariant c.self.view_is
    (c.head-bound.ensures ∙ rw (c.deref.ensures.value, c.slot_of-slot.ensures, c.mark_of-mark.ensures) refl)

pub returns-then-is_of-clause-node : goal.returns-then-is_of-clause-node
returns-then-is_of-clause-node c =
    let looked = rw c.deref-in-loop-bound.ensures.value at c.in-Some.ensures.lookup in
    omega (arith, length_is c.self.inside.objects.items c.args.self.now c.self.view_is, looked.0)

pub returns-then-is_of-clause-found : goal.returns-then-is_of-clause-found
returns-then-is_of-clause-found c =
    let looked = rw c.deref-in-loop-bound.ensures.value at c.in-Some.ensures.lookup in
    let within : c.loop-bound.bound - 1 < length c.args.self.now =
    omega (arith, length_is c.self.inside.objects.items c.args.self.now c.self.view_is, looked.0) in
    let same = is_of-yes c.in-Some.object.now c.mark_of-mark.result c.args.text.now (sym c.is_of.ensures ∙ c.if-is_of.true) in
    guessed_is c.args.self.now (spelt c.args.text.now) (node (c.loop-bound.bound - 1))
    (subst IsTree c.self.view_is c.self.invariant.listed) within
    (path_is c.self.inside.objects.items c.args.self.now c.self.view_is (node (c.loop-bound.bound - 1)) c.in-Some.object.now within looked.1 ∙ ap spelt same)

pub loop-bound-preserved : goal.loop-bound-preserved
loop-bound-preserved c =
    let looked = rw c.deref-in-loop-bound.ensures.value at c.in-Some.ensures.lookup in
    let within : c.loop-bound.bound - 1 < length c.args.self.now =
    omega (arith, length_is c.self.inside.objects.items c.args.self.now c.self.view_is, looked.0) in
    let of : IsOf c.args.self.now (c.loop-bound.bound - 1) c.in-Some.object.now =
    of_node c.self.inside.objects.items c.args.self.now c.self.view_is (node (c.loop-bound.bound - 1)) c.in-Some.object.now within looked.1 _ _
    c.self.invariant in
    let slots : slot_in c.in-Some.object.now.mark ≡ slot_in (text_mark c.args.text.now) =
    sym c.slot_of.ensures ∙ c.if-slot_of-slot.true ∙ c.slot_of-slot.ensures ∙ ap slot_in c.mark_of-mark.ensures in
    walk_goes c.args.self.now c.args.text.now c.requires c.in-Some.object.now c.loop-bound.bound (omega (arith, c.loop-bound-test.true)) of slots
    (λ mark. is_of-no c.in-Some.object.now c.mark_of-mark.result c.args.text.now (sym c.is_of.ensures ∙ c.if-is_of.false) (mark ∙ sym c.mark_of-mark.ensures))
    c.loop-bound.invariant

pub returns-in_default-clause-found : goal.returns-in_default-clause-found
returns-in_default-clause-found c =
    let mapped : c.map.result ≡ option_map node (option_copied c.get-in_default.result) = search rules in
    mapped ∙ found_is c.self.inside.objects.items c.self.inside.numbers.entries c.args.self.now c.args.text.now
    (option_copied c.get-in_default.result) c.self.inside.heads.items c.self.invariant c.self.view_is c.requires c.get-in_default.ensures.value

pub returns-in_default-clause-node : goal.returns-in_default-clause-node
returns-in_default-clause-node c =
    let mapped : c.map.result ≡ option_map node (option_copied c.get-in_default.result) = search rules in
    node_at-IsNode c.args.self.now (spelt c.args.text.now) c.map.result
    (mapped ∙ found_is c.self.inside.objects.items c.self.inside.numbers.entries c.args.self.now c.args.text.now
    (option_copied c.get-in_default.result) c.self.inside.heads.items c.self.invariant c.self.view_is c.requires c.get-in_default.ensures.value)

pub returns-clause-found : goal.returns-clause-found
returns-clause-found c = walk_ends c.args.self.now c.args.text.now c.requires c.loop-bound.bound (omega (arith, c.loop-bound-test.false)) c.loop-bound.invariant
