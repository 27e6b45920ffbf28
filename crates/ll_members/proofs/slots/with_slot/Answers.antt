use Rattle.std.proofs.Common.{rules}
use Rattle.ll_members.proofs.slots.with_slot.Goals as goal

pub returns-in_err-rights : goal.returns-in_err-rights
returns-in_err-rights c = search rules

pub returns-in-Ok : goal.returns-in-Ok
returns-in-Ok c = search rules

pub returns-in-Err : goal.returns-in-Err
returns-in-Err c = search rules
