use Rattle.std.proofs.Common.{◌≡◌, [], arith, rules}
use Rattle.std.specs.Vec.Iter.{into_iter_items}
use Rattle.std.proofs.lemmas.List.{nil_from_length}
use Rattle.ll_trace.proofs.PartLemmas.{Goes-next, Goes-stop, Goes-all, Goes-fault}
use Rattle.ll_trace.proofs.parts.admit_part.Goals as goal

pub returns-in-Err-clause-fault : goal.returns-in-Err-clause-fault
returns-in-Err-clause-fault c = λ lines others read.
    let goes = rw c.in-Some.ensures.steps.0 at (c.loop-entry.invariant.goes lines read) in
    Goes-stop _ _ lines others c.in-Some.entry _ _ c.in-Err.cause goes c.in-Err.ensures.gives

pub loop-entry-preserved : goal.loop-entry-preserved
loop-entry-preserved c = record {
  kept = search rules;
  goes = λ lines read.
      let goes = rw c.in-Some.ensures.steps.0 at (c.loop-entry.invariant.goes lines read) in
      Goes-next _ _ _ lines c.in-Some.entry _ _ goes c.in_default.ensures.gives;
}

pub returns-in-None-fault-clause-admitted : goal.returns-in-None-fault-clause-admitted
returns-in-None-fault-clause-admitted c = λ lines others read.
    let none : into_iter_items c.loop-entry.entry-iterator ≡ [] =
    nil_from_length _ (omega (arith, c.loop-entry.entry-iterator.rest.ok, c.in-None.ensures.steps.0)) in
    let goes = rw (none, c.in-None-fault.is) at (c.loop-entry.invariant.goes lines read) in
    Goes-all _ _ lines others goes

pub returns-in-Some-fault-clause-fault : goal.returns-in-Some-fault-clause-fault
returns-in-Some-fault-clause-fault c = λ lines others read.
    let none : into_iter_items c.loop-entry.entry-iterator ≡ [] =
    nil_from_length _ (omega (arith, c.loop-entry.entry-iterator.rest.ok, c.in-None.ensures.steps.0)) in
    let goes = rw (none, c.in-Some-fault.is) at (c.loop-entry.invariant.goes lines read) in
    Goes-fault _ _ lines others c.in-Some-fault.fault goes
