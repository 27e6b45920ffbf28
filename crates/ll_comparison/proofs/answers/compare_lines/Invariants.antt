use Rattle.ll_comparison.proofs.Answered.{AreAnswered}
use Rattle.ll_comparison.proofs.answers.compare_lines.Given as goal

abbrev pub invariant-loop-line : goal.invariant-loop-line
invariant-loop-line l = AreAnswered l.bytes l.line-iterator l.text.items
