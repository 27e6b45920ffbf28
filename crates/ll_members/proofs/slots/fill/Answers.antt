use Rattle.std.proofs.Common.{arith}
use Rattle.ll_members.proofs.PassedLemmas.{passed_no_key, filled_more, filled_all}
use Rattle.ll_members.proofs.slots.fill.Goals as goal

pub returns-in_err-key-clause-value : goal.returns-in_err-key-clause-value
returns-in_err-key-clause-value c =
    let none = passed_no_key c.args.depth c.args.reader.now c.loop-key.reader c.loop-key.invariant.passed c.in_err-key.ensures.value in
    grind (arith, none)

pub loop-key-preserved : goal.loop-key-preserved
loop-key-preserved c =
    filled_more c.args.depth c.args.reader.now c.loop-key.reader c.next_key.new.self c.slot_in.new.reader c.in-Some.key.now c.in_ok-slot.slot c.loop-key.members
    c.keep.new.self c.loop-key.invariant (grind arith) c.in_ok-slot.ensures.value c.in_ok-slot.ensures.shorter c.keep.ensures

pub returns-clause-value : goal.returns-clause-value
returns-clause-value c =
    filled_all c.args.depth c.args.reader.now c.loop-key.reader c.next_key.new.self c.loop-key.members c.loop-key.invariant (grind arith)
