use Rattle.std.proofs.Common.{List}
use Rattle.std.specs.List.{AllZip}
use Rattle.std.specs.Vec.Iter.{into_iter_items}
use Rattle.ll_lines.specs.Lines.{Line}
use Rattle.ll_trace.specs.Kept.{entries, IsKept}
use Rattle.ll_trace.specs.Parts.{IsReadOf}
use Rattle.ll_trace.proofs.PartLemmas.{Comes}
use Rattle.ll_trace.proofs.parts.admit_all.Given as goal

abbrev pub invariant-loop-part : goal.invariant-loop-part
invariant-loop-part l = record {
  kept : IsKept l.reader;
  comes : (lines : List (List Line)) → AllZip IsReadOf lines l.fn.parts.items
      → Comes (entries l.fn.reader) lines (entries l.reader) (into_iter_items l.part-iterator);
}
