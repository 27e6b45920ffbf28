use Rattle.ll_reasons.proofs.RulesetsMade.{ruleset_held, ruleset_named, ruleset_handles, ruleset_earlier}
use Rattle.ll_reasons.proofs.origins.rulesets_come_from_their_creations.Goals as goal

pub returns-clause-held : goal.returns-clause-held
returns-clause-held c = λ tree abi records index process rs. ruleset_held tree abi records index process rs

pub returns-clause-named : goal.returns-clause-named
returns-clause-named c = λ tree abi records index process rs. ruleset_named tree abi records index process rs

pub returns-clause-files : goal.returns-clause-files
returns-clause-files c = λ tree abi records index process rs rules is. (ruleset_handles tree abi records index process rs rules is).0

pub returns-clause-ports : goal.returns-clause-ports
returns-clause-ports c = λ tree abi records index process rs rules is. (ruleset_handles tree abi records index process rs rules is).1

pub returns-clause-creations : goal.returns-clause-creations
returns-clause-creations c = λ tree abi records index process rs. ruleset_earlier tree abi records index process rs
