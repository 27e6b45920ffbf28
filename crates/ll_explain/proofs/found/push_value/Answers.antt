use Rattle.std.proofs.Common.{rules}
use Rattle.ll_explain.proofs.Buffering.{adding_nothing}
use Rattle.ll_explain.specs.Told.{value_text}
use Rattle.ll_explain.proofs.found.push_value.Goals as goal

pub returns : goal.returns
unfolding value_text
returns c = search (rules, adding_nothing)

pub returns-in-Mootness-Some : goal.returns-in-Mootness-Some
unfolding value_text
returns-in-Mootness-Some c = search (rules, adding_nothing)

pub returns-in-Objections : goal.returns-in-Objections
unfolding value_text
returns-in-Objections c = search (rules, adding_nothing)
