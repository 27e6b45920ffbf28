use Rattle.std.proofs.Common.{rules}
use Rattle.ll_findings.proofs.chunk.Chunk.cut.Goals as goal

pub returns-in_err-later-clause-cases : goal.returns-in_err-later-clause-cases
returns-in_err-later-clause-cases c = search rules

pub returns-in_err-later-clause-from : goal.returns-in_err-later-clause-from
returns-in_err-later-clause-from c = search rules

pub invariant_of-others : goal.invariant_of-others
invariant_of-others c = search rules
