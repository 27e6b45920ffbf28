use Rattle.std.proofs.Common.{◌∙◌, sym}
use Rattle.ll_tree.specs.Trees.{kind_at, path_at}
use Rattle.ll_explanations.specs.Confined.{rules_of}
use Rattle.ll_explanations.proofs.Objecting.{gained_none, gained_some}
use Rattle.ll_explanations.proofs.asked.gained.Goals as goal

pub returns-then-is_empty-clause-said : goal.returns-then-is_empty-clause-said
returns-then-is_empty-clause-said c =
    let tree = c.args.layer.now.ctx.tree.now in
    gained_none (rules_of c.args.layer.now) (kind_at tree c.args.object) (path_at tree c.args.object) (path_at tree c.args.directory)
    c.passing-rights.result c.passing-rights.ensures (sym c.is_empty.ensures ∙ c.if-is_empty.true)

pub returns-clause-said : goal.returns-clause-said
returns-clause-said c =
    let tree = c.args.layer.now.ctx.tree.now in
    gained_some (rules_of c.args.layer.now) (kind_at tree c.args.object) (path_at tree c.args.object) (path_at tree c.args.directory)
    c.passing-rights.result c.passing-rights.ensures (sym c.is_empty.ensures ∙ c.if-is_empty.false)
