use Rattle.ll_reasons.proofs.LayersMade.{made_at, layers_made, layers_counted, each_layer_made}
use Rattle.ll_reasons.proofs.origins.layers_come_from_their_restricts.Goals as goal

pub returns-clause-layers : goal.returns-clause-layers
returns-clause-layers c = λ tree abi records index process. layers_made tree abi records index process

pub returns-clause-restricts : goal.returns-clause-restricts
returns-clause-restricts c = λ tree abi records index process. (made_at tree abi records index process).restricts

pub returns-clause-count : goal.returns-clause-count
returns-clause-count c = λ tree abi records index process. layers_counted tree abi records index process

pub returns-clause-each : goal.returns-clause-each
returns-clause-each c = λ tree abi records index process i. each_layer_made tree abi records index process i
