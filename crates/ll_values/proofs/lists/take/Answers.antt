use Rattle.std.proofs.Common.{◌≡◌, map, rules, length, ◌<◌, ◌^◌}
use Rattle.serde_json.specs.View.{view}
use Rattle.ll_lines.specs.Readers.{Fails}
use Rattle.ll_values.specs.Lists.{one_more}
use Rattle.ll_values.proofs.Folds.{one_more_seen, one_more_fails}
use Rattle.ll_values.proofs.lists.take.Goals as goal

pub returns-in_err-one : goal.returns-in_err-one
returns-in_err-one g c = λ reads agrees.
    let same : c.deref.result.now ≡ c.args.all.now.items = search rules in
    let few : length c.deref.result.now < 2 ^ 64 = search rules in
    let fails : Fails c.in_err-one.field-0.0 (one_more reads (map g.S.Sight.seen c.args.all.now.items) (view c.args.value.now)) =
    one_more_fails g.S.Sight.seen reads c.args.all.now.items c.deref.result.now (view c.args.value.now) c.in_err-one.field-0.0 same
    (agrees c.deref.result few c.args.value _ c.in_err-one.ensures) in
    search rules

pub returns : goal.returns
returns g c = λ reads agrees.
    let same : c.deref.result.now ≡ c.args.all.now.items = search rules in
    let few : length c.deref.result.now < 2 ^ 64 = search rules in
    one_more_seen g.S.Sight.seen reads c.args.all.now.items c.deref.result.now c.push.new.self.items c.in_ok-one.one
    (view c.args.value.now) same (agrees c.deref.result few c.args.value _ c.in_ok-one.ensures) c.in_ok-push.ensures.items
