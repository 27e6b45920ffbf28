use Rattle.std.proofs.Common.{subst, Ok, refl}
use Rattle.std.specs.Fn.{FnReturnsAt}
use Rattle.ll_policy.proofs.Lists.{zip_more}
use Rattle.ll_policy.proofs.each.made_of_each.Goals as goal

pub loop-thing-preserved : goal.loop-thing-preserved
loop-thing-preserved g c =
    let says = λ (thing : g.row.T.Denot) (told : g.row.U.Denot). FnReturnsAt g.F.Fn c.args.make thing (Ok told) in
    zip_more says c.args.things.now c.loop-thing.thing-index c.thing-item.result c.loop-thing.made.items c.push.new.self.items
    c.in_ok-make.field-0 c.loop-thing-test.true c.loop-thing.invariant
    (subst (λ (thing : g.row.T.Denot). says thing c.in_ok-make.field-0) c.thing-item.is
    (record { shown = _; shows = refl; says = record { met = c.in_ok-make.ensures } }))
    c.in_ok-push.ensures.items
