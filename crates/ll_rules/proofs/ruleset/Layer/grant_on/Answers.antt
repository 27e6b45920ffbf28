use Rattle.std.proofs.Common.{◌≡◌, ℕ, ap, refl, subst}
use Rattle.std.specs.FinMap.{insert}
use Rattle.ll_rules.specs.Layers.{RulesOn}
use Rattle.ll_rules.proofs.Adding.{rule_put}
use Rattle.ll_rules.proofs.ruleset.Layer.grant_on.Goals as goal

pub returns-clause-ok : goal.returns-clause-ok
returns-clause-ok c =
    let kept = c.self.inside.on_nodes in
    let put : c.insert.new.self ≡ insert kept c.args.node.0 c.union-granted.result =
    subst (λ (key : ℕ). c.insert.new.self ≡ insert kept key c.union-granted.result) c.index-2.ensures c.in_ok-insert.ensures.ok in
    rule_put c.args.self.now _ kept c.args.node c.args.files c.rule_at.result c.union-granted.result
    (ap (λ (value : RulesOn ℕ). value.file_rules) c.self.view_is)
    (rw (put, ← c.self.view_is) refl) c.rule_at.ensures c.union-granted.ensures
