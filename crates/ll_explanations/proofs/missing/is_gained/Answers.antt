use Rattle.std.proofs.Common.{◌∙◌, true, false, ap, refl, sym}
use Rattle.ll_rights.specs.declared.fs.Fs.{Fs}
use Rattle.ll_rights.specs.CodeRights.{fs_right}
use Rattle.ll_tree.specs.Trees.{kind_at, path_at}
use Rattle.ll_rules.specs.Checks.{lacks}
use Rattle.ll_explanations.specs.Confined.{rules_of}
use Rattle.ll_explanations.proofs.Gaining.{gainable-by}
use Rattle.ll_explanations.proofs.missing.is_gained.Goals as goal

pub returns-then-not-counts_for : goal.returns-then-not-counts_for
returns-then-not-counts_for c =
    let tree = c.args.layer.now.ctx.tree.now in
    let layer = rules_of c.args.layer.now in
    gainable-by layer (kind_at tree c.args.object) (path_at tree c.args.object) (path_at tree c.args.directory) (fs_right c.args.right)
    false _ _ (sym c.if-not-counts_for.true ∙ c.counts_for.ensures) refl refl

pub returns-then-not-lacks : goal.returns-then-not-lacks
returns-then-not-lacks c =
    let tree = c.args.layer.now.ctx.tree.now in
    let layer = rules_of c.args.layer.now in
    gainable-by layer (kind_at tree c.args.object) (path_at tree c.args.object) (path_at tree c.args.directory) (fs_right c.args.right)
    true false _ (sym c.if-not-counts_for.false ∙ c.counts_for.ensures)
    (sym c.if-not-lacks.true ∙ c.lacks.ensures ∙ ap (λ (set : Fs). lacks layer (path_at tree c.args.object) set) c.set-set.ensures) refl

pub returns : goal.returns
returns c =
    let tree = c.args.layer.now.ctx.tree.now in
    let layer = rules_of c.args.layer.now in
    gainable-by layer (kind_at tree c.args.object) (path_at tree c.args.object) (path_at tree c.args.directory) (fs_right c.args.right)
    true true _ (sym c.if-not-counts_for.false ∙ c.counts_for.ensures)
    (sym c.if-not-lacks.false ∙ c.lacks.ensures ∙ ap (λ (set : Fs). lacks layer (path_at tree c.args.object) set) c.set-set.ensures)
    (c.lacks-2.ensures ∙ ap (λ (set : Fs). lacks layer (path_at tree c.args.directory) set) c.set-set.ensures)
