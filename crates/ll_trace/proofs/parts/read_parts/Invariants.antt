-- What is read of the parts so far, and the lines of those that are left.
use Rattle.std.proofs.Common.{◌≡◌, [], flat_map}
use Rattle.std.specs.Vec.Iter.{into_iter_items}
use Rattle.ll_lines.specs.LineByLine.{read_lines}
use Rattle.ll_trace.specs.Entries.{trace_file}
use Rattle.ll_trace.specs.Kept.{entries, IsKept}
use Rattle.ll_trace.proofs.parts.read_parts.Given as goal

abbrev pub invariant-loop-part : goal.invariant-loop-part
invariant-loop-part g l = record {
  read : read_lines trace_file [] (flat_map g.P.Part.lines l.fn.parts.items)
      ≡ read_lines trace_file (entries l.reader) (flat_map g.P.Part.lines (into_iter_items l.part-iterator));
  kept : IsKept l.reader;
}
