use Rattle.std.proofs.Common.{rules}
use Rattle.ll_explain.proofs.Buffering.{adding_both}
use Rattle.ll_report.proofs.report.push_verdict.Goals as goal

pub returns-in-Allowed : goal.returns-in-Allowed
returns-in-Allowed c = search (rules, adding_both)

pub returns-in-Moot : goal.returns-in-Moot
returns-in-Moot c = search (rules, adding_both)

pub returns-in-Refused : goal.returns-in-Refused
returns-in-Refused c = search (rules, adding_both)
