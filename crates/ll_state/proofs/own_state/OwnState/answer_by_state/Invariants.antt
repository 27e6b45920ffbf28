-- Each call meets what this one meets.
use Rattle.ll_state.proofs.own_state.OwnState.answer_by_state.Given as goal

abbrev pub ghost-open : goal.ghost-open
ghost-open g a = g.ctx

abbrev pub ghost-adopt : goal.ghost-adopt
ghost-adopt g a = g.ctx

abbrev pub ghost-dup : goal.ghost-dup
ghost-dup g a = g.ctx

abbrev pub ghost-close : goal.ghost-close
ghost-close g a = g.ctx

abbrev pub ghost-answer : goal.ghost-answer
ghost-answer g a = g.ctx
