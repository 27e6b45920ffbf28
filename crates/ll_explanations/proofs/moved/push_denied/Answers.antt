use Rattle.std.proofs.Common.{refl}
use Rattle.ll_explanations.specs.Confined.{rules_of}
use Rattle.ll_explanations.proofs.Adding.{adds_as}
use Rattle.ll_explanations.proofs.Moving.{between, directories_eq, within_one}
use Rattle.ll_explanations.proofs.moved.push_denied.Goals as goal

pub returns-then-eq : goal.returns-then-eq
returns-then-eq c =
    let layer = c.args.layer.now in
    let tree = layer.ctx.tree.now in
    let p = c.args.request.now in
    let is = c.requires in
    adds_as tree layer.ctx.trail.now.layers.items layer.number _ _ _ _
    (within_one (rules_of layer) tree p.attempt p.source p.destination p.leaving p.entering is.from is.leaving is.entering _
    (rw (← c.union-asked.ensures) c.missing.ensures.said) (directories_eq tree p is c.eq.ensures c.if-eq.true))
    c.in_ok-push_any.ensures

pub returns : goal.returns
returns c =
    let layer = c.args.layer.now in
    let p = c.args.request.now in
    let is = c.requires in
    adds_as layer.ctx.tree.now layer.ctx.trail.now.layers.items layer.number _ _ _ _
    (between (rules_of layer) layer.ctx.tree.now p.attempt p.source p.destination p.leaving p.entering is.from is.leaving is.entering _ _ is.into
    refl refl (directories_eq layer.ctx.tree.now p is c.eq.ensures c.if-eq.false))
    c.in_ok-push_missing.ensures
