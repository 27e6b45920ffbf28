use Rattle.std.proofs.Common.{◌∙◌, true, false, ap, sym, refl}
use Rattle.ll_rights.specs.declared.fs.Fs.{Fs}
use Rattle.ll_rights.specs.CodeRights.{fs_right}
use Rattle.ll_rights.specs.Rights as files
use Rattle.ll_tree.specs.Trees.{path_at}
use Rattle.ll_rules.specs.Checks.{lacks}
use Rattle.ll_explanations.specs.Confined.{rules_of}
use Rattle.ll_explanations.proofs.Lacking.{lacked-by}
use Rattle.ll_explanations.proofs.missing.is_missing.Goals as goal

pub returns-then-has : goal.returns-then-has
returns-then-has c =
    let layer = rules_of c.args.layer.now in
    let path = path_at c.args.layer.now.ctx.tree.now c.args.node in
    lacked-by layer path c.args.asked (fs_right c.args.right) true c.lacks.result (sym c.has.ensures ∙ c.if-has.true)
    (c.lacks.ensures ∙ ap (λ (set : Fs). lacks layer path set) c.set.ensures)

pub returns-else-has : goal.returns-else-has
returns-else-has c =
    let layer = rules_of c.args.layer.now in
    let path = path_at c.args.layer.now.ctx.tree.now c.args.node in
    lacked-by layer path c.args.asked (fs_right c.args.right) false (lacks layer path (files.only (fs_right c.args.right)))
    (sym c.has.ensures ∙ c.if-has.false) refl
