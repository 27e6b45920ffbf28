-- A file that is open for writing keeps the layers that lack truncate, and one that is open for reading keeps none.
use Rattle.std.proofs.Common.{rules}
use Rattle.ll_rights.specs.Rights.{only}
use Rattle.ll_state.proofs.call.ConfinedCall.opened_file.Goals as goal

pub returns-in-Read : goal.returns-in-Read
returns-in-Read c = search rules

pub returns-in-Write : goal.returns-in-Write
unfolding only
returns-in-Write c = search rules
