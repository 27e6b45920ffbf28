use Rattle.std.proofs.Common.{◌∙◌, ℕ, ap}
use Rattle.std.specs.Prelude.{Option}
use Rattle.std.specs.Option.{unwrap_or}
use Rattle.ll_rights.specs.declared.net.Net.{Net}
use Rattle.ll_rights.specs.NetRights.{no_right}
use Rattle.ll_rules.specs.Layers.{RulesOn}
use Rattle.ll_rules.proofs.Ports.{port_rule_found}
use Rattle.ll_rules.proofs.ruleset.Layer.rule_on_port.Goals as goal

pub returns : goal.returns
returns c =
    port_rule_found c.args.self.now c.self.inside.on_ports c.args.port c.unwrap_or.result (ap (λ (value : RulesOn ℕ). value.port_rules) c.self.view_is)
    (c.unwrap_or.ensures ∙ ap (λ (rule : Option Net). unwrap_or rule no_right) (c.copied.ensures ∙ c.get.ensures))
