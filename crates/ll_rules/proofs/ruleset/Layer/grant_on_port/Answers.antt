use Rattle.std.proofs.Common.{ℕ, ap, refl}
use Rattle.ll_rules.specs.Layers.{RulesOn}
use Rattle.ll_rules.proofs.Ports.{port_rule_put}
use Rattle.ll_rules.proofs.ruleset.Layer.grant_on_port.Goals as goal

pub returns-clause-ok : goal.returns-clause-ok
returns-clause-ok c =
    port_rule_put c.args.self.now _ c.self.inside.on_ports c.args.port c.args.network c.rule_on_port.result c.union-granted.result
    (ap (λ (value : RulesOn ℕ). value.port_rules) c.self.view_is)
    (rw (c.in_ok-insert.ensures.ok, ← c.self.view_is) refl) c.rule_on_port.ensures c.union-granted.ensures
