use Rattle.ll_rights.specs.NetRights as network
use Rattle.ll_reasons.specs.Conditions.{no_port, unhandled_on_ports}
use Rattle.ll_explanations.specs.Meanings.{condition_in, port_rights_in}
use Rattle.ll_explanations.proofs.Beyond.{all_within, some_beyond}
use Rattle.ll_explanations.proofs.condition.invalid_port.Goals as goal

pub returns-then-is_empty : goal.returns-then-is_empty
unfolding condition_in network.some_right network.every_right
returns-then-is_empty c op =
    let beyond = c.beyond_on_ports-unhandled in
    all_within network.has beyond.result c.args.net c.args.whole beyond.ensures network.all_rights (no_port c.args.port) unhandled_on_ports
    c.is_empty.ensures c.if-is_empty.true

pub returns-else-is_empty : goal.returns-else-is_empty
unfolding condition_in port_rights_in network.some_right network.every_right
returns-else-is_empty c op =
    let beyond = c.beyond_on_ports-unhandled in
    some_beyond network.has beyond.result c.args.net c.args.whole beyond.ensures network.all_rights (no_port c.args.port) unhandled_on_ports
    c.is_empty.ensures c.if-is_empty.false
