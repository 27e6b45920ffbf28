use Rattle.ll_reasons.proofs.Enough.{path_enough, port_enough, directories_enough}
use Rattle.ll_reasons.proofs.Gains.{crossing_enough}
use Rattle.ll_reasons.proofs.remedies.granting_what_is_named_is_enough.Goals as goal

pub returns-clause-path : goal.returns-clause-path
returns-clause-path c = λ layer path wanted. path_enough layer path wanted

pub returns-clause-port : goal.returns-clause-port
returns-clause-port c = λ layer port wanted. port_enough layer port wanted

pub returns-clause-denied : goal.returns-clause-denied
returns-clause-denied c = λ tree move layer. directories_enough tree move layer

pub returns-clause-held_back : goal.returns-clause-held_back
returns-clause-held_back c = λ tree move layer. crossing_enough tree move layer
