use Rattle.ll_explanations.specs.Lacked.{passes}
use Rattle.ll_explanations.proofs.Lacking.{AreBefore}
use Rattle.ll_explanations.proofs.missing.passing.Given as goal

-- the rights before the index that pass are in the set
abbrev pub invariant-loop-right : goal.invariant-loop-right
invariant-loop-right l = AreBefore (passes l.test) l.rights l.right-index
