use Rattle.ll_rules.specs.InTree.{AreInTree}
use Rattle.ll_rules.specs.RuleFaults.{add_path_fault}
use Rattle.ll_rulebook.specs.Stores.{IsPathAdded}
use Rattle.ll_rulebook.proofs.Frozen.{adds_rule, ruleset_there, all_there}
use Rattle.ll_rulebook.proofs.store.Store.add_path.Goals as goal

pub add_path-requires-clause-within : goal.add_path-requires-clause-within
add_path-requires-clause-within c =
    all_there (AreInTree c.args.tree.now) c.args.self.now.rulesets c.args.index c.index_mut.result.now.«ruleset» c.requires.within
    (ruleset_there c.self.inside.rulesets.items c.self.inside.layers.items c.args.self.now c.self.view_is c.args.index c.requires.there c.index_mut.result.now
    c.index_mut.ensures.value)

pub returns : goal.returns
returns c =
    (adds_rule c.self.inside.rulesets.items c.self.inside.layers.items c.args.self.now c.self.view_is c.args.index c.requires.there c.index_mut.result.now
    c.index_mut.ensures.value
    (λ before. add_path_fault c.args.tree.now before c.args.spot c.args.files)
    (IsPathAdded c.args.tree.now c.args.spot c.args.files) c.add_path.result c.add_path.new.self
    c.add_path.ensures.fault c.add_path.ensures.ok c.add_path.ensures.err)
