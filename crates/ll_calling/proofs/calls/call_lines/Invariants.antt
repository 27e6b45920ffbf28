use Rattle.ll_calling.proofs.Taken.{AreTaken}
use Rattle.ll_calling.proofs.calls.call_lines.Given as goal

abbrev pub invariant-loop-line : goal.invariant-loop-line
invariant-loop-line l = AreTaken l.fn.abi l.bytes l.line-iterator l.called.text.items l.called.refused
