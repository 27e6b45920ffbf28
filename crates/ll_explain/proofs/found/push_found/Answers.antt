use Rattle.std.proofs.Common.{rules}
use Rattle.ll_explain.proofs.Buffering.{adding_nothing}
use Rattle.ll_explain.proofs.found.push_found.Goals as goal

pub explained-requires : goal.explained-requires
explained-requires c = search (rules, adding_nothing)

pub returns-in-Some : goal.returns-in-Some
returns-in-Some c = search (rules, adding_nothing)

pub returns-in-None : goal.returns-in-None
returns-in-None c = search (rules, adding_nothing)
