-- What is admitted, the parts that are read, and the lines that are left give the reading of all.
use Rattle.std.proofs.Common.{flat_map, length}
use Rattle.ll_trace.specs.Kept.{entries, IsKept}
use Rattle.ll_trace.proofs.PartLemmas.{AreReading}
use Rattle.ll_trace.proofs.parts.read_parts_by.Given as goal

abbrev pub invariant-loop-alloc : goal.invariant-loop-alloc
invariant-loop-alloc g l = record {
  reading : AreReading g.P.Part.lines (flat_map g.P.Part.lines l.fn.parts.items) (entries l.reader) l.reads.items l.left.items;
  kept : IsKept l.reader;
}

abbrev pub decreases-loop-alloc : goal.decreases-loop-alloc
decreases-loop-alloc g l = length l.left.items
