use Rattle.std.proofs.Common.{◌∙◌, ◌+◌, refl, subst, ℕ, List}
use Rattle.ll_reasons.specs.Objections.{Objection, objecting_from}
use Rattle.ll_explanations.specs.Asking.{objected}
use Rattle.ll_explanations.proofs.Adding.{AreUpto, layer_more, none_yet}
use Rattle.ll_explanations.proofs.Objecting.{objecting_all, objecting_more}
use Rattle.ll_explanations.proofs.asked.objections_of.Goals as goal

pub loop-index-init : goal.loop-index-init
unfolding objecting_from
loop-index-init c = none_yet c.args.ctx.now.tree.now c.args.ctx.now.trail.now.layers.items _ _ c.in_ok-all.ensures.items refl

pub loop-index-preserved : goal.loop-index-preserved
loop-index-preserved c =
    let ctx = c.args.ctx.now in
    subst (λ (groups : List (ℕ × List Objection)). AreUpto ctx.tree.now ctx.trail.now.layers.items (c.loop-index.index + 1) c.push_objections.new.all.items
    groups)
    (objecting_more (objected ctx.tree.now c.args.asked.now) ctx.tree.now ctx.layers.now ctx.domain.now c.loop-index.index c.loop-index-test.true)
    (layer_more ctx.tree.now ctx.trail.now.layers.items c.loop-index.index _ _ c.loop-index.invariant c.push_objections.new.all.items _
    c.in_ok-push_objections.ensures)

pub returns : goal.returns
returns c =
    let ctx = c.args.ctx.now in record {
      said = c.loop-index.invariant.means
          ∙ objecting_all (objected ctx.tree.now c.args.asked.now) ctx.tree.now ctx.layers.now ctx.domain.now c.loop-index.index
          c.loop-index.auto.index-end c.loop-index-test.false;
      noted = c.loop-index.invariant.noted;
    }
