use Rattle.std.proofs.Common.{rules}
use Rattle.ll_members.proofs.SlotLemmas.{values_taken}
use Rattle.ll_members.proofs.slots.take_value.Goals as goal

pub returns-in_err-rights_in-in-Array-clause-value : goal.returns-in_err-rights_in-in-Array-clause-value
returns-in_err-rights_in-in-Array-clause-value c = search (rules, values_taken)

pub returns-in_err-fill-in-Object-clause-value : goal.returns-in_err-fill-in-Object-clause-value
returns-in_err-fill-in-Object-clause-value c = search (rules, values_taken)

pub returns-in_ok-rights_in-in-Array-clause-value : goal.returns-in_ok-rights_in-in-Array-clause-value
returns-in_ok-rights_in-in-Array-clause-value c = search (rules, values_taken)

pub returns-in_ok-fill-in-Object-clause-value : goal.returns-in_ok-fill-in-Object-clause-value
returns-in_ok-fill-in-Object-clause-value c = search (rules, values_taken)
