use Rattle.std.proofs.Common.{rules}
use Rattle.ll_explanations.proofs.Adding.{adds_one}
use Rattle.ll_explanations.proofs.asked.push_one.Goals as goal

pub overflow_sub-layer : goal.overflow_sub-layer
overflow_sub-layer c = search (rules, adds_one)

pub returns-in_err-push : goal.returns-in_err-push
returns-in_err-push c = search (rules, adds_one)

pub returns : goal.returns
returns c = search (rules, adds_one)
