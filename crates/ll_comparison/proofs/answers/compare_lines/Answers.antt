use Rattle.ll_lines.specs.LineByLine.{line_view}
use Rattle.ll_values.proofs.Answering.{fault_met}
use Rattle.ll_comparison.specs.Comparisons.{comparison_on}
use Rattle.ll_comparison.proofs.Answered.{answered_none, answered_next}
use Rattle.ll_comparison.proofs.answers.compare_lines.Goals as goal

pub loop-line-init : goal.loop-line-init
loop-line-init c =
    rw (c.into_iter-line-iterator.ensures.into_iter_gives, c.new-line-items.ensures, c.new-text.ensures.items) (answered_none c.args.bytes.now)

pub loop-line-preserved : goal.loop-line-preserved
loop-line-preserved c =
    let next = c.in_default.ensures.answer in
    answered_next c.args.bytes.now c.loop-line.line-iterator (line_view c.in-Some.line) c.next.new.self c.loop-line.text.items c.take_answer.new.text.items
    next.0 c.in-Some.ensures.steps c.loop-line.invariant next.1 next.2

pub returns-in-Err-clause-fault : goal.returns-in-Err-clause-fault
returns-in-Err-clause-fault c =
    rw c.fault.ensures
    (fault_met comparison_on c.args.bytes.now c.loop-line.line-iterator (line_view c.in-Some.line) c.next.new.self _
    c.in-Err.cause c.in-Some.ensures.steps c.loop-line.invariant.so_far.reads c.in-Err.ensures.fault)
