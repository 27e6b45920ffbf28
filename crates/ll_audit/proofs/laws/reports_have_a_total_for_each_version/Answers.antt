use Rattle.ll_report.specs.Made.{told_by}
use Rattle.ll_rights.proofs.AbiRanges.{at_least_one}
use Rattle.ll_audit.proofs.Totals.{one_total_each}
use Rattle.ll_audit.proofs.laws.reports_have_a_total_for_each_version.Goals as goal

pub returns-clause-totals : goal.returns-clause-totals
returns-clause-totals c options tree records report = one_total_each options tree records (told_by report)

pub returns-clause-at_least_one : goal.returns-clause-at_least_one
returns-clause-at_least_one c = λ options rising. at_least_one options.abis rising
