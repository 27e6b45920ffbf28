use Rattle.std.proofs.Common.{◌∙◌, None, Some, ap, append-nil, sym}
use Rattle.ll_origins.proofs.Frozen.{next_of, all_of, domain_is}
use Rattle.ll_origins.proofs.domain.domain_of.Goals.{in-Some+in_ok-push, in_default}
use Rattle.ll_origins.proofs.domain.domain_of.Goals as goal

-- src/domain.rt:42:5
pub loop-index-preserved : goal.loop-index-preserved
loop-index-preserved c =
    let indices = c.args.trail.now.layers.items in
    let read = c.deref-index-items.result.now in
    let n = c.loop-index.index-index in
    elim c.match-layer_by.branch [
      | in-Some+in_ok-push w ↦
          next_of c.args.case.now indices read n c.loop-index.ids.items c.match-layer_by.ids.items (Some w.in-Some.id) c.deref-index-items.ensures.value
          c.loop-index-test.true w.in-Some.ensures (ap (λ v. v.items) w.ids-is ∙ w.in_ok-push.ensures.items) c.loop-index.invariant
      | in_default w ↦
          next_of c.args.case.now indices read n c.loop-index.ids.items c.match-layer_by.ids.items None c.deref-index-items.ensures.value c.loop-index-test.true
          w.in_default.ensures (ap (λ v. v.items) w.ids-is ∙ sym (append-nil c.loop-index.ids.items)) c.loop-index.invariant
    ]

-- src/domain.rt:36:1
pub returns : goal.returns
returns c = λ index process follows. domain_is c.args.case.now c.args.trail.now c.loop-index.ids.items index process
    (all_of c.args.case.now c.args.trail.now.layers.items c.deref-index-items.result.now c.loop-index.index-index c.loop-index.ids.items
    c.deref-index-items.ensures.value c.loop-index-test.false c.loop-index.invariant) follows
