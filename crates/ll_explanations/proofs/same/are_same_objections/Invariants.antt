use Rattle.std.proofs.Common.{◌≡◌, take}
use Rattle.ll_explanations.proofs.same.are_same_objections.Given as goal

-- those so far are the same
abbrev pub invariant-loop-index : goal.invariant-loop-index
invariant-loop-index l = take l.index l.all ≡ take l.index l.others
