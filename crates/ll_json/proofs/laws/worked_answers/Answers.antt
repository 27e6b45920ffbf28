use Rattle.std.proofs.Common.{refl, lit<}
use Rattle.std.proofs.lemmas.Fmt.{decimal_digit}
use Rattle.json.specs.Print.{escape_byte, print_from}
use Rattle.ll_lines.specs.Paths.{text_of}
use Rattle.ll_json.specs.Records.{answer_members, layers_json, why_members}
use Rattle.ll_json.specs.Why.{by_word, layer_json, objection_json, reason_json}
use Rattle.ll_json.proofs.laws.worked_answers.Goals as goal

pub returns-clause-explained : goal.returns-clause-explained
unfolding answer_members layers_json why_members layer_json objection_json text_of escape_byte print_from
returns-clause-explained c = rw (decimal_digit 1 (lit< tt), decimal_digit 6 (lit< tt)) refl

pub returns-clause-bare : goal.returns-clause-bare
unfolding answer_members layers_json why_members escape_byte print_from
returns-clause-bare c = rw (decimal_digit 1 (lit< tt), decimal_digit 2 (lit< tt), decimal_digit 4 (lit< tt)) refl

pub returns-clause-moot : goal.returns-clause-moot
unfolding answer_members layers_json why_members by_word reason_json text_of escape_byte print_from
returns-clause-moot c = rw (decimal_digit 1 (lit< tt)) refl
