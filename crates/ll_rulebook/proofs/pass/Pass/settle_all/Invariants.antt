use Rattle.ll_rulebook.specs.Passes.{HasSettled}
use Rattle.ll_rulebook.proofs.pass.Pass.settle_all.Given as goal

abbrev pub invariant-loop-index : goal.invariant-loop-index
invariant-loop-index l = HasSettled l.fn.self.tree.now l.fn.self.abi l.trace l.index l.self l.outcomes.items
