use Rattle.std.proofs.Common.{◌≡◌, [], arith}
use Rattle.std.specs.Vec.Iter.{into_iter_items}
use Rattle.std.proofs.lemmas.List.{nil_from_length}
use Rattle.ll_findings.proofs.Covering.{changes_join, changes_join_all, changes_join_more}
use Rattle.ll_findings.proofs.comparing.join_changes.Goals as goal

pub loop-part-init : goal.loop-part-init
loop-part-init c = λ case base chunks end compared are.
    let given : into_iter_items c.into_iter-part-iterator.result ≡ c.args.parts.items = c.into_iter-part-iterator.ensures.into_iter_gives.0 in
    rw given (changes_join case base end chunks c.none-all.result c.args.parts.items c.none-all.ensures compared are)

pub loop-part-preserved : goal.loop-part-preserved
loop-part-preserved c = λ case base chunks end compared are.
    let joins = rw c.in-Some.ensures.steps.0 at (c.loop-part.invariant case base chunks end compared are) in
    changes_join_more case base end c.loop-part.all c.in_ok-own.own c.append.new.self _ (rw c.in_ok-own.was at joins) c.in_ok-append.ensures

pub returns : goal.returns
returns c = λ case base chunks end compared are.
    let none : into_iter_items c.loop-part.part-iterator ≡ [] =
    nil_from_length _ (omega (arith, c.loop-part.part-iterator.rest.ok, c.in-None.ensures.steps.0)) in
    let joins = rw none at (c.loop-part.invariant case base chunks end compared are) in
    changes_join_all case base end c.loop-part.all joins
