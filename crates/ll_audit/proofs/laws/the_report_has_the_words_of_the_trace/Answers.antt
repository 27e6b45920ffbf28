use Rattle.ll_trace.specs.Records.{entry_of}
use Rattle.ll_trace.proofs.SaidByName.{line_says}
use Rattle.ll_audit.proofs.laws.the_report_has_the_words_of_the_trace.Goals as goal

pub returns : goal.returns
returns c = λ line r answer reads. line_says line (entry_of r) reads
