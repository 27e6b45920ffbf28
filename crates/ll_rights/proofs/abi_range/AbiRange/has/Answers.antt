use Rattle.std.proofs.Common.{rules}
use Rattle.ll_rights.proofs.abi_range.AbiRange.has.Goals as goal

pub number-number-requires : goal.number-number-requires
number-number-requires c = search rules

pub returns-then-oldest-number : goal.returns-then-oldest-number
returns-then-oldest-number c = search rules

pub returns-else-oldest-number : goal.returns-else-oldest-number
returns-else-oldest-number c = search rules
