use Rattle.std.proofs.Common.{◌≡◌, [], rules}
use Rattle.ll_lines.specs.LineByLine.{line_view}
use Rattle.ll_values.proofs.Answering.{fault_met}
use Rattle.ll_calling.specs.PolicyLines.{policy_on}
use Rattle.ll_calling.proofs.Taken.{taken_none, taken_next, taken_all}
use Rattle.ll_calling.proofs.calls.call_lines.Goals as goal

pub loop-line-init : goal.loop-line-init
loop-line-init c =
    rw (c.into_iter-line-iterator.ensures.into_iter_gives, c.new-line-items.ensures, c.new.ensures.items) (taken_none c.args.abi c.args.bytes.now)

pub loop-line-preserved : goal.loop-line-preserved
loop-line-preserved c =
    taken_next c.args.abi c.args.bytes.now c.loop-line.line-iterator (line_view c.in-Some.line) c.next.new.self _ _ _ _
    c.in-Some.ensures.steps c.loop-line.invariant c.in_default.ensures.taken

pub returns-in-Err-clause-fault : goal.returns-in-Err-clause-fault
returns-in-Err-clause-fault c =
    rw c.fault.ensures
    (fault_met policy_on c.args.bytes.now c.loop-line.line-iterator (line_view c.in-Some.line) c.next.new.self _ c.in-Err.cause
    c.in-Some.ensures.steps c.loop-line.invariant.reads c.in-Err.ensures.fault)

pub returns-clause-calls : goal.returns-clause-calls
returns-clause-calls c =
    let none : c.loop-line.line-iterator ≡ [] = search rules in
    taken_all c.args.abi c.args.bytes.now c.loop-line.line-iterator c.loop-line.called.text.items c.loop-line.called.refused none c.loop-line.invariant
