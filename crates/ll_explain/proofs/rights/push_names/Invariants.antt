use Rattle.std.proofs.Common.{◌≡◌, codes, drop, true}
use Rattle.ll_explain.specs.Buffers.{adding}
use Rattle.ll_explain.specs.Words.{word_for}
use Rattle.ll_explain.proofs.Listing.{left}
use Rattle.ll_explain.proofs.rights.push_names.Given as goal

-- what is written and what is left make the whole
abbrev pub invariant-loop-right : goal.invariant-loop-right
invariant-loop-right g l =
    let set = g.S.RightSet in
    let rest = left (λ right. set.family.has l.rights (set.named right)) (λ right. word_for (set.family.row (set.named right)).name) (codes ", ") in
    adding l.text (rest l.is_first (drop l.right-index l.right-items)) ≡ adding l.fn.text (rest true l.right-items)
