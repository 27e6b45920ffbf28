-- What is asked is on the object that is opened, by its kind and by how it is opened.
use Rattle.std.proofs.Common.{rules}
use Rattle.ll_rights.specs.Rights.{only}
use Rattle.ll_semantics.specs.Requests.{open_kind}
use Rattle.ll_state.proofs.requests.open_kind.Goals as goal

pub returns-in-Reg-clause-exact : goal.returns-in-Reg-clause-exact
unfolding open_kind only
returns-in-Reg-clause-exact c = search rules

pub returns-in-Char-clause-exact : goal.returns-in-Char-clause-exact
unfolding open_kind only
returns-in-Char-clause-exact c = search rules
