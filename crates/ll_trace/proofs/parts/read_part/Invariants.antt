use Rattle.ll_trace.specs.Parts.{Covers}
use Rattle.ll_trace.proofs.parts.read_part.Given as goal

abbrev pub invariant-loop-line : goal.invariant-loop-line
invariant-loop-line l = Covers l.fn.lines l.entries.items l.line-iterator
