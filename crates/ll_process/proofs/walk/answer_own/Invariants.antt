use Rattle.ll_process.proofs.walk.answer_own.Given as goal

abbrev pub ghost-answer_call : goal.ghost-answer_call
ghost-answer_call g a = g.ctx
