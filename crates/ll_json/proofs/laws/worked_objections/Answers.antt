use Rattle.std.proofs.Common.{refl, lit<}
use Rattle.std.proofs.lemmas.Fmt.{decimal_digit}
use Rattle.json.specs.Print.{escape_byte, print_from}
use Rattle.ll_json.specs.Why.{objection_json}
use Rattle.ll_json.proofs.laws.worked_objections.Goals as goal

pub returns-clause-port : goal.returns-clause-port
unfolding objection_json escape_byte print_from
returns-clause-port c = rw (decimal_digit 7 (lit< tt)) refl

pub returns-clause-kept : goal.returns-clause-kept
unfolding objection_json escape_byte print_from
returns-clause-kept c = rw (decimal_digit 5 (lit< tt)) refl
