use Rattle.ll_rules.specs.KeptLayers.{IsDomainOf}
use Rattle.ll_fixtures.proofs.layer.stacked.Given as goal

abbrev pub invariant-loop-number : goal.invariant-loop-number
invariant-loop-number l = IsDomainOf l.layers l.domain
