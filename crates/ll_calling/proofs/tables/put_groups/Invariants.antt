use Rattle.std.proofs.Common.{◌≡◌, ◌++◌, drop, flat_map}
use Rattle.ll_calling.specs.Texts.{group_line}
use Rattle.ll_calling.proofs.tables.put_groups.Given as goal

-- the lines so far, and those of the other groups, are all
abbrev pub invariant-loop-name : goal.invariant-loop-name
invariant-loop-name l =
    l.text.items ++ flat_map (λ name. group_line name.now) (drop l.name-index l.names)
    ≡ l.initial.text.items ++ flat_map (λ name. group_line name.now) l.names
