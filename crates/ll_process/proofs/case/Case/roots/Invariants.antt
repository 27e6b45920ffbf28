use Rattle.ll_process.proofs.Roots.{Rooted}
use Rattle.ll_process.proofs.case.Case.roots.Given as goal

abbrev pub invariant-loop-index : goal.invariant-loop-index
invariant-loop-index l = Rooted l.self l.index l.jobs.items
