use Rattle.std.proofs.Common.{map, rules, drop, sym, subst, ◌∙◌, length, ◌≤◌}
use Rattle.serde_json.specs.View.{items_view}
use Rattle.ll_lines.specs.Readers.{Fails}
use Rattle.ll_values.specs.Lists.{fold_items, one_more}
use Rattle.ll_values.proofs.Folds.{fold_next, fold_fails, fold_end}
use Rattle.ll_values.proofs.lists.all_in.Goals as goal

pub loop-value-preserved : goal.loop-value-preserved
loop-value-preserved g c = λ reads agrees.
    sym (fold_next (one_more reads) (map g.S.Sight.seen c.loop-value.all.items) (map g.S.Sight.seen c.take.new.all.items)
    c.args.values.now c.loop-value.value-index c.value-item.result c.loop-value-test.true c.value-item.is
    (c.in_ok-take.ensures reads agrees)) ∙ c.loop-value.invariant reads agrees

pub returns-in_err-take : goal.returns-in_err-take
returns-in_err-take g c = λ reads agrees.
    let cause = c.in_err-take.field-0.0 in
    let so_far = map g.S.Sight.seen c.loop-value.all.items in
    let fails : Fails cause (fold_items (one_more reads) so_far (items_view (drop c.loop-value.value-index c.args.values.now))) =
    fold_fails (one_more reads) so_far c.args.values.now c.loop-value.value-index c.value-item.result cause c.loop-value-test.true
    c.value-item.is (c.in_err-take.ensures reads agrees) in
    let whole = subst (λ read. Fails cause read) (c.loop-value.invariant reads agrees) fails in
    search rules

pub returns : goal.returns
returns g c = λ reads agrees.
    let ended : length c.args.values.now ≤ c.loop-value.value-index = search rules in
    sym (c.loop-value.invariant reads agrees)
    ∙ fold_end (one_more reads) (map g.S.Sight.seen c.loop-value.all.items) c.args.values.now c.loop-value.value-index ended
