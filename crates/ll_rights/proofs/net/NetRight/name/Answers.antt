use Rattle.std.proofs.Common.{rules}
use Rattle.ll_rights.proofs.net.NetRight.name.Goals as goal

pub returns-in-BindTcp : goal.returns-in-BindTcp
returns-in-BindTcp c = search rules

pub returns-in-ConnectTcp : goal.returns-in-ConnectTcp
returns-in-ConnectTcp c = search rules

pub returns-in-Other : goal.returns-in-Other
returns-in-Other c = search rules
