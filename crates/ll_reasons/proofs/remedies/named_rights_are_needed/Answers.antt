use Rattle.ll_reasons.proofs.Named.{rights_named, port_rights_named}
use Rattle.ll_reasons.proofs.remedies.named_rights_are_needed.Goals as goal

pub returns-clause-files : goal.returns-clause-files
returns-clause-files c = λ layer path asked right. rights_named _ right

pub returns-clause-ports : goal.returns-clause-ports
returns-clause-ports c = λ layer port asked right. port_rights_named _ right

pub returns-clause-gains : goal.returns-clause-gains
returns-clause-gains c = λ layer kind object directory right. rights_named _ right
