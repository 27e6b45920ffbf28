use Rattle.std.proofs.Common.{◌∙◌, sym}
use Rattle.ll_tree.specs.Trees.{path_at}
use Rattle.ll_explanations.specs.Confined.{rules_of}
use Rattle.ll_explanations.proofs.Objecting.{missing_none, missing_some}
use Rattle.ll_explanations.proofs.asked.missing.Goals as goal

pub returns-then-is_empty-clause-said : goal.returns-then-is_empty-clause-said
returns-then-is_empty-clause-said c =
    missing_none (rules_of c.args.layer.now) (path_at c.args.layer.now.ctx.tree.now c.args.node) c.args.asked c.passing-rights.result c.passing-rights.ensures
    (sym c.is_empty.ensures ∙ c.if-is_empty.true)

pub returns-clause-said : goal.returns-clause-said
returns-clause-said c =
    missing_some (rules_of c.args.layer.now) (path_at c.args.layer.now.ctx.tree.now c.args.node) c.args.asked c.passing-rights.result c.passing-rights.ensures
    (sym c.is_empty.ensures ∙ c.if-is_empty.false)
