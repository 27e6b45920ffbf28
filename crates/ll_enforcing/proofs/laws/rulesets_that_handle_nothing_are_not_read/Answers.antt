use Rattle.ll_enforcing.proofs.Handling.{read_traces}
use Rattle.ll_enforcing.proofs.laws.rulesets_that_handle_nothing_are_not_read.Goals as goal

pub returns : goal.returns
returns c = read_traces
