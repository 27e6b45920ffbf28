use Rattle.std.proofs.Common.{rules}
use Rattle.ll_rights.proofs.abi.Abi.number.Goals as goal

pub returns-in-V1 : goal.returns-in-V1
returns-in-V1 c = search rules

pub returns-in-V2 : goal.returns-in-V2
returns-in-V2 c = search rules

pub returns-in-V3 : goal.returns-in-V3
returns-in-V3 c = search rules

pub returns-in-V4 : goal.returns-in-V4
returns-in-V4 c = search rules

pub returns-in-V5 : goal.returns-in-V5
returns-in-V5 c = search rules
