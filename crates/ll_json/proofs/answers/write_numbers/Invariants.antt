use Rattle.std.proofs.Common.{◌≡◌, ◌-◌}
use Rattle.ll_json.specs.Writing.{writing}
use Rattle.ll_json.proofs.NumbersTold.{upto}
use Rattle.ll_json.proofs.answers.write_numbers.Given as goal

-- the layers below the number are written
abbrev pub invariant-loop-number : goal.invariant-loop-number
invariant-loop-number l = l.out ≡ writing l.fn.out (upto l.numbers (l.number - 1))
