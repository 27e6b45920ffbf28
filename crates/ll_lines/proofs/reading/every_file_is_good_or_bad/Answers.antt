use Rattle.ll_lines.proofs.ReadingLemmas.{good_iff_reading, bad_iff_reading, good_or_bad, good_or_else_bad}
use Rattle.ll_lines.proofs.reading.every_file_is_good_or_bad.Goals as goal

pub returns-clause-good : goal.returns-clause-good
returns-clause-good g c = λ format bytes entries. good_iff_reading format bytes entries

pub returns-clause-bad : goal.returns-clause-bad
returns-clause-bad g c = λ format bytes fault. bad_iff_reading format bytes fault

pub returns-clause-either : goal.returns-clause-either
returns-clause-either g c = λ format bytes. good_or_else_bad format bytes

pub returns-clause-not_both : goal.returns-clause-not_both
returns-clause-not_both g c = λ format bytes entries fault. good_or_bad format bytes entries fault
