use Rattle.std.proofs.Common.{refl, lit<}
use Rattle.std.proofs.lemmas.Fmt.{decimal_digit}
use Rattle.json.specs.Print.{escape_byte, print_from}
use Rattle.ll_json.specs.Why.{by_word, condition_json}
use Rattle.ll_json.proofs.laws.worked_conditions.Goals as goal

pub returns-clause-for_ports : goal.returns-clause-for_ports
unfolding by_word condition_json escape_byte print_from
returns-clause-for_ports c = rw (decimal_digit 4 (lit< tt)) refl
