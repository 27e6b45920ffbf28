use Rattle.std.proofs.Common.{subst, ℕ}
use Rattle.ll_tree.specs.declared.place.Place.{Place}
use Rattle.ll_rules.specs.Layers.{RulesOn}
use Rattle.ll_rules.specs.KeptLayers.{GrantsOn}
use Rattle.ll_rules.specs.InTree.{IsOfTree}
use Rattle.ll_rules.proofs.Adding.{one_rule_more, still_in_tree}
use Rattle.ll_rules.proofs.ruleset.Ruleset.add_path.Goals as goal

pub returns-clause-ok : goal.returns-clause-ok
returns-clause-ok c =
    let more = subst (λ (old : RulesOn ℕ). GrantsOn old c.grant_on.new.self c.in_ok-node.node c.args.files) c.self.view_is c.in-Ok.ensures.ok in
    rw c.in_ok-node.ensures.node (one_rule_more c.args.tree.now c.args.self.now c.grant_on.new.self c.in_ok-node.node c.args.files more)

pub returns-clause-in_tree : goal.returns-clause-in_tree
returns-clause-in_tree c =
    let more = subst (λ (old : RulesOn ℕ). GrantsOn old c.grant_on.new.self c.in_ok-node.node c.args.files) c.self.view_is c.in-Ok.ensures.ok in
    let inside = subst (λ (place : Place). IsOfTree c.args.tree.now place) c.in_ok-node.ensures.node c.requires.place in
    still_in_tree c.args.tree.now c.args.self.now c.grant_on.new.self c.in_ok-node.node c.args.files inside more c.requires.within
