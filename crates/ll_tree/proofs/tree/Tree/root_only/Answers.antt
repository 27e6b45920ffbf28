-- The root is kept alone.
use Rattle.std.proofs.Common.{◌≡◌, ◌∷◌, []}
use Rattle.ll_tree.specs.Trees.{root}
use Rattle.ll_tree.specs.Kept.{IsSound, entries_of}
use Rattle.ll_tree.proofs.Keeping.{kept_root}
use Rattle.ll_tree.proofs.tree.Tree.root_only.Goals as goal
use Rattle.ll_tree.proofs.tree.Tree.root_only.Goals.{In_ok-push}

-- what is kept, and that it is the root
both_facts : (c : In_ok-push) → IsSound c.push.new.self.items c.insert.new.self.entries c.set_head.new.heads.items
    × (entries_of c.push.new.self.items ≡ root ∷ [])
both_facts c =
    rw (rw c.in_ok-objects.ensures.items at c.in_ok-push.ensures.items, rw c.new-numbers.ensures.empty at c.in_ok-insert.ensures.entries)
    (kept_root c.in_ok-from_str.field-0 c.in_ok-from_str-2.field-0 c.in_ok-from_str.ensures.ok c.in_ok-from_str-2.ensures.ok
    c.mark_of-mark.result c.set_head.new.heads.items c.mark_of-mark.ensures
    (rw (← c.mark_of-mark.ensures, ← c.slot_of.ensures) c.set_head.ensures.this))

pub invariant_of-result : goal.invariant_of-result
invariant_of-result c = (both_facts c).0

pub returns : goal.returns
returns c = (both_facts c).1
