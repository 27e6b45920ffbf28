-- The next parts are read, and no part is left at the end.
use Rattle.std.proofs.Common.{◌≡◌, rules, flat_map, length}
use Rattle.std.proofs.lemmas.List.{nil_from_length}
use Rattle.ll_trace.specs.Kept.{entries}
use Rattle.ll_trace.proofs.PartLemmas.{AreReading-next, AreReading-end}
use Rattle.ll_trace.proofs.parts.read_parts_by.Goals as goal

pub loop-alloc-preserved : goal.loop-alloc-preserved
loop-alloc-preserved g c = record {
  reading = AreReading-next g.P.Part.lines _ _ _ _ _ _ _ _ c.in-Ok.ensures.next c.loop-alloc.invariant.reading
      c.in_ok-admitted.ensures.admitted c.in_ok-admitted.ensures.read;
  kept = search rules;
}

pub returns-clause-gives : goal.returns-clause-gives
returns-clause-gives g c =
    let empty : length c.loop-alloc.left.items ≡ 0 = search rules in
    AreReading-end g.P.Part.lines (flat_map g.P.Part.lines c.args.parts.items) (entries c.loop-alloc.reader) c.loop-alloc.reads.items
    c.loop-alloc.left.items c.admit_all.result (nil_from_length c.loop-alloc.left.items empty) c.loop-alloc.invariant.reading
    c.admit_all.ensures.admitted c.admit_all.ensures.fault
