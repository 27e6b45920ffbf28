use Rattle.std.proofs.Common.{◌≡◌, drop}
use Rattle.std.specs.List.{flat_map}
use Rattle.ll_json.specs.Values.{word_if}
use Rattle.ll_json.specs.Writing.{writing}
use Rattle.ll_json.proofs.rights.write_names.Given as goal

-- what is written and what is left make the whole
abbrev pub invariant-loop-right : goal.invariant-loop-right
invariant-loop-right g l =
    let set = g.S.RightSet in
    let words = flat_map (λ right. word_if (set.family.has l.rights (set.named right)) (set.family.row (set.named right)).name) in
    writing l.out (words (drop l.right-index l.all)) ≡ writing l.fn.out (words l.all)
