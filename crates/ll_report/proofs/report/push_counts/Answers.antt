use Rattle.std.proofs.Common.{rules}
use Rattle.ll_explain.proofs.Buffering.{adding_both}
use Rattle.ll_report.proofs.report.push_counts.Goals as goal

pub push_words-requires : goal.push_words-requires
push_words-requires c = search (rules, adding_both)

pub push_number-requires : goal.push_number-requires
push_number-requires c = search (rules, adding_both)

pub returns : goal.returns
returns c = search (rules, adding_both)
