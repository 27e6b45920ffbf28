use Rattle.std.proofs.Common.{◌≡◌, [], arith, rules}
use Rattle.std.specs.Vec.Iter.{into_iter_items}
use Rattle.std.proofs.lemmas.List.{nil_from_length}
use Rattle.ll_trace.proofs.PartLemmas.{Comes-next, Comes-stop, Comes-end}
use Rattle.ll_trace.proofs.parts.admit_all.Goals as goal

pub returns-in-Err-clause-fault : goal.returns-in-Err-clause-fault
returns-in-Err-clause-fault c = λ lines others read.
    let comes = rw c.in-Some.ensures.steps.0 at (c.loop-part.invariant.comes lines read) in
    Comes-stop _ _ lines others c.in-Some.part _ _ _ comes c.in-Err.ensures.fault

pub loop-part-preserved : goal.loop-part-preserved
loop-part-preserved c = record {
  kept = search rules;
  comes = λ lines read.
      let comes = rw c.in-Some.ensures.steps.0 at (c.loop-part.invariant.comes lines read) in
      Comes-next _ _ _ lines c.in-Some.part _ comes c.in_default.ensures.admitted;
}

pub returns-clause-admitted : goal.returns-clause-admitted
returns-clause-admitted c = λ lines others read.
    let none : into_iter_items c.loop-part.part-iterator ≡ [] =
    nil_from_length _ (omega (arith, c.loop-part.part-iterator.rest.ok, c.in-None.ensures.steps.0)) in
    let comes = rw none at (c.loop-part.invariant.comes lines read) in
    Comes-end _ _ lines others comes
