use Rattle.std.proofs.Common.{ℕ}
use Rattle.ll_rules.specs.Layers.{RulesOn}
use Rattle.ll_rules.specs.KeptLayers.{GrantsOnPort}
use Rattle.ll_rules.specs.RuleFaults.{add_port_fault}
use Rattle.ll_rulebook.proofs.Frozen.{adds_rule}
use Rattle.ll_rulebook.proofs.store.Store.add_port.Goals as goal

pub returns : goal.returns
returns c =
    (adds_rule c.self.inside.rulesets.items c.self.inside.layers.items c.args.self.now c.self.view_is c.args.index c.requires c.index_mut.result.now
    c.index_mut.ensures.value
    (λ before. add_port_fault c.args.abi before c.args.port c.args.network)
    (λ (before after : RulesOn ℕ). GrantsOnPort before after c.args.port c.args.network) c.add_port.result c.add_port.new.self
    c.add_port.ensures.fault c.add_port.ensures.ok c.add_port.ensures.err)
