use Rattle.std.proofs.Common.{◌∙◌, ℕ, ap}
use Rattle.std.specs.Prelude.{Option}
use Rattle.std.specs.Option.{unwrap_or}
use Rattle.ll_rights.specs.declared.fs.Fs.{Fs}
use Rattle.ll_rights.specs.Rights.{no_right}
use Rattle.ll_rules.specs.Layers.{RulesOn}
use Rattle.ll_rules.specs.InTree.{node}
use Rattle.ll_rules.proofs.Lookups.{rule_found}
use Rattle.ll_rules.proofs.ruleset.Layer.rule_in_map.Goals as goal

pub returns : goal.returns
returns c =
    rule_found c.args.self.now c.self.inside.on_nodes (node c.args.number) c.unwrap_or.result (ap (λ (value : RulesOn ℕ). value.file_rules) c.self.view_is)
    (c.unwrap_or.ensures ∙ ap (λ (rule : Option Fs). unwrap_or rule no_right) (c.copied.ensures ∙ c.get.ensures))
