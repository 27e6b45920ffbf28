use Rattle.std.proofs.Common.{rules}
use Rattle.ll_explanations.proofs.explanation.Explanation.is_same.Goals as goal

pub returns-in-Nothing-Nothing : goal.returns-in-Nothing-Nothing
returns-in-Nothing-Nothing c = search rules

pub returns-in-Objections-Objections : goal.returns-in-Objections-Objections
returns-in-Objections-Objections c = search rules

pub returns-in-Failure-Failure : goal.returns-in-Failure-Failure
returns-in-Failure-Failure c = search rules
