use Rattle.std.proofs.Common.{◌∙◌, ℕ, sym, ap}
use Rattle.ll_rights.specs.Rights.{only}
use Rattle.ll_rules.specs.Layers.{RulesOn}
use Rattle.ll_rules.proofs.RightSets.{handled_none, handled_some, refer_known}
use Rattle.ll_rules.proofs.ruleset.Layer.handled.Goals as goal

pub returns-then-is_empty-clause-handled : goal.returns-then-is_empty-clause-handled
returns-then-is_empty-clause-handled c =
    handled_none c.args.self.now c.self.inside.files (ap (λ (rules : RulesOn ℕ). rules.handled_files) c.self.view_is)
    (sym c.is_empty.ensures ∙ c.if-is_empty.true)

pub returns-else-is_empty-clause-handled : goal.returns-else-is_empty-clause-handled
unfolding only
returns-else-is_empty-clause-handled c =
    handled_some c.args.self.now c.self.inside.files c.union.result (ap (λ (rules : RulesOn ℕ). rules.handled_files) c.self.view_is)
    (sym c.is_empty.ensures ∙ c.if-is_empty.false) c.union.ensures

pub returns-else-is_empty-clause-known : goal.returns-else-is_empty-clause-known
unfolding only
returns-else-is_empty-clause-known c = rw c.union.ensures (refer_known c.self.inside.files c.self.invariant.0)
