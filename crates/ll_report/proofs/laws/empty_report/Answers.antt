use Rattle.std.proofs.Common.{refl, lit<}
use Rattle.std.proofs.lemmas.Fmt.{decimal_digit}
use Rattle.ll_semantics.specs.Worlds.{judged, judged_from}
use Rattle.ll_report.specs.Lines.{lines_of}
use Rattle.ll_report.specs.Report.{report_text}
use Rattle.ll_report.proofs.laws.empty_report.Goals as goal

pub returns : goal.returns
unfolding judged judged_from lines_of report_text
returns c = rw (decimal_digit 0 (lit< tt)) refl
