use Rattle.std.proofs.Common.{List}
use Rattle.std.specs.Vec.Iter.{into_iter_items}
use Rattle.ll_lines.specs.Lines.{Line}
use Rattle.ll_trace.specs.Kept.{entries, IsKept}
use Rattle.ll_trace.specs.Parts.{IsReadOf}
use Rattle.ll_trace.proofs.PartLemmas.{Goes}
use Rattle.ll_trace.proofs.parts.admit_part.Given as goal

abbrev pub invariant-loop-entry : goal.invariant-loop-entry
invariant-loop-entry l = record {
  kept : IsKept l.reader;
  goes : (lines : List Line) → IsReadOf lines l.fn.part
      → Goes (entries l.fn.reader) lines (entries l.reader) (into_iter_items l.entry-iterator) l.fn.part.fault;
}
