use Rattle.std.proofs.Common.{◌∙◌, ap}
use Rattle.ll_tree.specs.Trees.{node_at}
use Rattle.ll_reasons.specs.Reasons.{spelt}
use Rattle.ll_explanations.proofs.SpeltTexts.{spelt_read}
use Rattle.ll_explanations.proofs.paths.SpeltPath.node.Goals as goal

pub returns-clause-exact : goal.returns-clause-exact
returns-clause-exact c =
    c.node_of.ensures.exact (spelt c.as_str.result.now) (spelt_read c.as_str.result.now c.as_str.ensures.shape)
    ∙ ap (node_at c.args.tree.now) c.as_str.ensures.path
