use Rattle.std.proofs.Common.{◌∙◌, length, ap}
use Rattle.std.specs.Prelude.{not, ◌==◌}
use Rattle.ll_tree.specs.Trees.{path_at}
use Rattle.ll_rules.specs.Checks.{lacks, refusing}
use Rattle.ll_rules.specs.InTree.{all_in_tree}
use Rattle.ll_rules.specs.KeptLayers.{domain_of}
use Rattle.ll_semantics.specs.States.{Layer}
use Rattle.ll_explanations.specs.Confined.{rules_of}
use Rattle.ll_explanations.proofs.Lacking.{numbers-alone}
use Rattle.ll_explanations.proofs.missing.lacks.Goals as goal

pub returns-in-Some : goal.returns-in-Some
returns-in-Some c = (rw c.in-Some.is at c.lacks_by.ensures) c.args.layer.now.ctx.tree.now c.args.layer.now.ctx.known

pub returns-in-None : goal.returns-in-None
returns-in-None c =
    let ctx = c.args.layer.now.ctx in
    let path = path_at ctx.tree.now c.args.node in
    ap not (c.is_empty.ensures.empty
    ∙ ap (λ numbers. length numbers == 0) (c.check_path.ensures
    ∙ ap (λ ids. refusing (all_in_tree ctx.tree.now (domain_of ctx.layers.now ids)) path c.args.rights) c.alone.ensures))
    ∙ numbers-alone (λ (layer : Layer). lacks layer path c.args.rights) (rules_of c.args.layer.now)
