-- Each call meets what this one meets.
use Rattle.ll_state.proofs.own_state.OwnState.answer_call.Given as goal

abbrev pub ghost-answer_by_state : goal.ghost-answer_by_state
ghost-answer_by_state g a = g.ctx
