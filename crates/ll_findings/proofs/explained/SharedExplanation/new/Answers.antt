use Rattle.std.proofs.Common.{rules}
use Rattle.ll_findings.proofs.explained.SharedExplanation.new.Goals as goal

pub returns-then-is_silent : goal.returns-then-is_silent
returns-then-is_silent c = search rules

pub returns-in-Some : goal.returns-in-Some
returns-in-Some c = search rules

pub returns-in_default : goal.returns-in_default
returns-in_default c = search rules
