use Rattle.std.proofs.Common.{◌≡◌, ◌∙◌, ◌<◌, Some, ap, length, refl, rules, subst}
use Rattle.std.specs.Prelude.{slice_get}
use Rattle.std.proofs.lemmas.Option.{slice_get_read}
use Rattle.ll_findings.specs.Overlays.{Rise, where_in}
use Rattle.ll_findings.proofs.Rising.{all_passed, found_there, passed}
use Rattle.ll_findings.proofs.indices.Indices.find.Goals as goal

pub returns-then-is_empty : goal.returns-then-is_empty
returns-then-is_empty c = all_passed c.args.index c.args.self.now (λ i within. search rules)

pub returns-then-at-index : goal.returns-then-at-index
returns-then-at-index c =
    let all = c.self.inside.indices.items in
    let within : c.loop-position.position < length all = search rules in
    let read : slice_get all c.loop-position.position ≡ Some c.index.result.now =
    slice_get_read all (length all) c.loop-position.position c.index.result.now refl within c.index.ensures in
    found_there c.args.index 0 c.loop-position.position all c.self.invariant (read ∙ ap Some c.if-at-index.true) ∙ ap (where_in c.args.index) c.self.view_is

pub returns-then-at-index-2 : goal.returns-then-at-index-2
returns-then-at-index-2 c =
    let all = c.self.inside.indices.items in
    let within : c.loop-position.position < length all = search rules in
    let read : slice_get all c.loop-position.position ≡ Some c.index.result.now =
    slice_get_read all (length all) c.loop-position.position c.index.result.now refl within c.index.ensures in
    passed c.args.index 0 c.loop-position.position c.index.result.now c.args.self.now (subst (Rise 0) c.self.view_is c.self.invariant)
    (subst (λ all. slice_get all c.loop-position.position ≡ Some c.index.result.now) c.self.view_is read) c.if-at-index-2.true c.loop-position.invariant

pub returns : goal.returns
returns c = all_passed c.args.index c.args.self.now (λ i within. c.loop-position.invariant i (search rules))
