use Rattle.std.proofs.Common.{refl}
use Rattle.ll_rights.specs.Rights.{only}
use Rattle.ll_tree.specs.Trees.{path_at}
use Rattle.ll_explanations.specs.Confined.{rules_of}
use Rattle.ll_explanations.proofs.Adding.{adds_as, adds_both}
use Rattle.ll_explanations.proofs.Moving.{crossing}
use Rattle.ll_explanations.proofs.moved.push_held_back.Goals as goal

pub returns : goal.returns
unfolding only
returns c =
    let layer = c.args.layer.now in
    let tree = layer.ctx.tree.now in
    let p = c.args.request.now in
    adds_as tree layer.ctx.trail.now.layers.items layer.number _ _ _ _
    (crossing (rules_of layer) tree p.attempt _ _ _ _ (path_at tree p.source) (path_at tree p.destination) c.requires.from c.requires.into
    refl refl c.gained.ensures.said c.gained_other.ensures.said)
    (adds_both tree layer.ctx.trail.now.layers.items layer.number _ _ _ _ _
    (adds_both tree layer.ctx.trail.now.layers.items layer.number _ _ _ _ _ c.in_ok-push_missing.ensures c.in_ok-push_any.ensures) c.in_ok-push_any-2.ensures)
