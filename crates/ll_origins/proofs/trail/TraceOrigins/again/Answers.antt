use Rattle.std.proofs.Common.{◌≡◌, ◌∙◌, ◌∷◌, ◌++◌, [], List, Some, ap, arith, length, slice_get, subst}
use Rattle.ll_origins.specs.declared.trail.ProcessOrigins.{ProcessOrigins}
use Rattle.ll_origins.proofs.AtIndices.{read_there}
use Rattle.ll_origins.proofs.Trailing.{FollowAlike, all_alike, trail_alike}
use Rattle.ll_origins.proofs.trail.TraceOrigins.again.Goals as goal

pub loop-trail-preserved : goal.loop-trail-preserved
loop-trail-preserved c =
    let trails : List ProcessOrigins = c.args.self.now.trails.items in
    let same : c.deref-trail-items.result.now ≡ trails = c.deref-trail-items.ensures.value in
    let there : slice_get trails c.loop-trail.trail-index ≡ Some c.trail-item.result =
    read_there trails c.deref-trail-items.result.now c.loop-trail.trail-index c.trail-item.result same
    (omega (arith, ap (λ xs. length xs) same, c.loop-trail-test.true)) c.trail-item.is in
    trail_alike trails c.loop-trail.trails.items c.push_reserved.new.self.items c.loop-trail.trail-index c.trail-item.result c.in_ok-again.field-0
    c.loop-trail.invariant (c.push_reserved.ensures.items ∙ ap (λ all. all ++ c.in_ok-again.field-0 ∷ []) c.in_ok-reserve.ensures.items) there
    c.in_ok-again.ensures

pub returns : goal.returns
returns c = λ sources are.
    let trails : List ProcessOrigins = c.args.self.now.trails.items in
    let last : c.loop-trail.trail-index ≡ length trails =
    omega (arith, ap (λ xs. length xs) c.deref-trail-items.ensures.value, c.loop-trail-test.false, c.loop-trail.auto.trail-index-end) in
    all_alike trails c.loop-trail.trails.items sources (subst (FollowAlike trails c.loop-trail.trails.items) last c.loop-trail.invariant) are
