use Rattle.ll_audit.proofs.OneReport.{by_plain_options, with_all_lines}
use Rattle.ll_audit.proofs.laws.plain_options_ask_for_the_report.Goals as goal

pub returns-clause-leads : goal.returns-clause-leads
returns-clause-leads c = with_all_lines

pub returns-clause-back : goal.returns-clause-back
returns-clause-back c = by_plain_options
