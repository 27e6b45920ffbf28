use Rattle.std.proofs.Common.{refl, lit<}
use Rattle.std.proofs.lemmas.Fmt.{decimal_digit}
use Rattle.ll_report.proofs.laws.worked_kinds.Goals as goal

pub returns-clause-rows : goal.returns-clause-rows
returns-clause-rows c = rw (decimal_digit 3 (lit< tt), decimal_digit 1 (lit< tt)) refl
