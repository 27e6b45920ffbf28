use Rattle.ll_lines.proofs.NumberLemmas.{HasRead}
use Rattle.ll_lines.proofs.numbers.short_number.Given as goal

abbrev pub invariant-loop-digit : goal.invariant-loop-digit
invariant-loop-digit l = HasRead l.digits l.digit-index l.number
