use Rattle.std.proofs.Common.{◌≡◌, ◌∙◌, ℕ, ap, sym}
use Rattle.std.specs.Prelude.{Option, None}
use Rattle.std.specs.Option.{unwrap_or}
use Rattle.std.specs.FinMap.{get}
use Rattle.ll_rights.specs.declared.fs.Fs.{Fs}
use Rattle.ll_rights.specs.Rights.{no_right}
use Rattle.ll_rules.specs.Layers.{RulesOn}
use Rattle.ll_rules.proofs.Lookups.{rule_found}
use Rattle.ll_rules.proofs.ruleset.Layer.rule_at.Goals as goal

pub returns-then-not-has : goal.returns-then-not-has
returns-then-not-has c =
    let unmarked = sym c.has.ensures ∙ c.if-not-has.true in
    let looked : None ≡ get c.self.inside.on_nodes c.args.node.0 = rw (← c.index-number.ensures) (sym (c.self.invariant.2 c.index-number.result unmarked)) in
    rule_found c.args.self.now c.self.inside.on_nodes c.args.node no_right (ap (λ (value : RulesOn ℕ). value.file_rules) c.self.view_is)
    (ap (λ (rule : Option Fs). unwrap_or rule no_right) looked)
