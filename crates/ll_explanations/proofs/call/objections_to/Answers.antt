use Rattle.std.proofs.Common.{refl}
use Rattle.ll_rights.specs.NetRights.{bind_tcp, connect_tcp, only}
use Rattle.ll_explanations.proofs.call.objections_to.Goals as goal

pub objections_of-requires-in-Bind : goal.objections_of-requires-in-Bind
unfolding only
objections_of-requires-in-Bind c = record { one = bind_tcp; same = refl }

pub objections_of-requires-in-Connect : goal.objections_of-requires-in-Connect
unfolding only
objections_of-requires-in-Connect c = record { one = connect_tcp; same = refl }
