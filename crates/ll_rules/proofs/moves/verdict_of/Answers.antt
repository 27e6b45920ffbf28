use Rattle.std.proofs.Common.{rules}
use Rattle.ll_rules.proofs.moves.verdict_of.Goals as goal

pub returns-then-not-is_empty : goal.returns-then-not-is_empty
returns-then-not-is_empty c = search rules

pub returns-then-not-is_empty-2 : goal.returns-then-not-is_empty-2
returns-then-not-is_empty-2 c = search rules

pub returns : goal.returns
returns c = search rules
