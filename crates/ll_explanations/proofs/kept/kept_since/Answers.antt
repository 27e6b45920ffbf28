use Rattle.std.proofs.Common.{◌≡◌, ◌∙◌, sym, arith, refl}
use Rattle.ll_rights.specs.CodeRights.{fs_right}
use Rattle.ll_rules.specs.declared.domain.TheConstants.{MOST_LAYERS}
use Rattle.std.proofs.lemmas.List.Elements.{All-nil}
use Rattle.ll_explanations.specs.InTree.{IsNoted}
use Rattle.ll_explanations.specs.Meanings.{by_layer}
use Rattle.ll_explanations.proofs.Adding.{layer_without, none_yet}
use Rattle.ll_explanations.proofs.Keeping.{among, kept_all, kept_more, kept_none, kept_without, kept_yet}
use Rattle.ll_explanations.proofs.kept.kept_since.Goals as goal
use Rattle.ll_explanations.proofs.kept.kept_since.Goals.{then-has+in_ok-push, else-has}

pub returns-then-is_empty : goal.returns-then-is_empty
unfolding by_layer
returns-then-is_empty c = record {
  said = rw c.new-all.ensures.items (kept_none (fs_right c.args.right) c.args.opened c.args.numbers (sym c.is_empty.ensures.empty ∙ c.if-is_empty.true));
  noted = rw c.new-all.ensures.items (All-nil (IsNoted c.args.ctx.now.tree.now c.args.ctx.now.trail.now.layers.items));
}

pub loop-index-init : goal.loop-index-init
loop-index-init c =
    none_yet c.args.ctx.now.tree.now c.args.ctx.now.trail.now.layers.items _ _ c.new-all.ensures.items
    (kept_yet (fs_right c.args.right) c.args.opened (among c.args.numbers))

pub loop-index-preserved : goal.loop-index-preserved
unfolding among
loop-index-preserved c =
    let right = fs_right c.args.right in
    let tree = c.args.ctx.now.tree.now in
    let layers = c.args.ctx.now.trail.now.layers.items in
    elim c.if-has.branch [
      | then-has+in_ok-push w ↦
          rw w.all-is (kept_more right c.args.opened tree layers (among c.args.numbers) c.loop-index.index _ _ _
          (sym c.has.ensures ∙ w.if-has.true) c.loop-index.invariant w.in_ok-push.ensures.items refl w.made_by.ensures tt refl)
      | else-has w ↦
          rw w.all-is (layer_without tree layers c.loop-index.index _ _ c.loop-index.invariant _
          (kept_without right c.args.opened (among c.args.numbers) c.loop-index.index (sym c.has.ensures ∙ w.if-has.false)))
    ]

pub returns : goal.returns
unfolding among
returns c =
    let last : c.loop-index.index ≡ MOST_LAYERS = omega (arith, c.loop-index-test.false, c.loop-index.auto.index-end) in record {
      said = c.loop-index.invariant.means
          ∙ kept_all (fs_right c.args.right) c.args.opened c.args.numbers (among c.args.numbers) c.loop-index.index last c.is_empty.ensures.rising;
      noted = c.loop-index.invariant.noted;
    }
