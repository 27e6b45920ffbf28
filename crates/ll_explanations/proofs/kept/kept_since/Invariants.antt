use Rattle.ll_rights.specs.CodeRights.{fs_right}
use Rattle.ll_explanations.proofs.Adding.{AreUpto}
use Rattle.ll_explanations.proofs.Keeping.{among, kept_upto}
use Rattle.ll_explanations.proofs.kept.kept_since.Given as goal

-- what the layers up to the number object to is noted
abbrev pub invariant-loop-index : goal.invariant-loop-index
invariant-loop-index l =
    let layers = l.ctx.trail.now.layers.items in
    let kept = kept_upto (fs_right l.fn.right) l.opened (among l.numbers) in
    AreUpto l.ctx.tree.now layers l.index l.all.items (kept l.index)
