use Rattle.ll_process.specs.Own.{context_at}
use Rattle.ll_process.proofs.progress.judge_record.Given as goal

abbrev pub ghost-answer_own : goal.ghost-answer_own
ghost-answer_own g a = context_at a.case.now a.index a.process.0
