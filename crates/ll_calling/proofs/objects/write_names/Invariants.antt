use Rattle.std.proofs.Common.{◌≡◌, ◌++◌, drop, map}
use Rattle.json.specs.Tree.{items_tokens}
use Rattle.ll_calling.specs.Texts.{name_items}
use Rattle.ll_calling.proofs.objects.write_names.Given as goal

-- what is written and what is left make the whole
abbrev pub invariant-loop-right : goal.invariant-loop-right
invariant-loop-right g l =
    let sets = g.S.RightSet in
    (l.out.tokens ++ items_tokens (name_items sets.family (sets.family.has l.set) (map sets.named (drop l.right-index l.all)))
    ≡ l.initial.out.tokens ++ items_tokens (name_items sets.family (sets.family.has l.set) (map sets.named l.all)))
    × (l.out.before ≡ l.initial.out.before)
