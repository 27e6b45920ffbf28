use Rattle.std.proofs.Common.{refl, lit<}
use Rattle.std.proofs.lemmas.Fmt.{decimal_digit}
use Rattle.json.specs.Print.{escape_byte}
use Rattle.ll_lines.specs.Paths.{text_of}
use Rattle.ll_explain.specs.Words.{behind, condition_text, unknown_text, explanation_text, joined, layer_head, layer_text, listed, objection_text, path_text}
use Rattle.ll_explain.proofs.laws.worked_words.Goals as goal

pub returns-clause-missing : goal.returns-clause-missing
unfolding explanation_text layer_text layer_head objection_text listed path_text joined behind text_of escape_byte
returns-clause-missing c = rw (decimal_digit 1 (lit< tt), decimal_digit 5 (lit< tt)) refl

pub returns-clause-twice : goal.returns-clause-twice
unfolding explanation_text layer_text layer_head objection_text listed path_text joined behind text_of escape_byte
returns-clause-twice c = rw (decimal_digit 1 (lit< tt), decimal_digit 2 (lit< tt), decimal_digit 5 (lit< tt)) refl

pub returns-clause-kept : goal.returns-clause-kept
unfolding explanation_text layer_text layer_head objection_text joined behind escape_byte
returns-clause-kept c = rw (decimal_digit 1 (lit< tt), decimal_digit 5 (lit< tt)) refl

pub returns-clause-port : goal.returns-clause-port
unfolding explanation_text layer_text layer_head objection_text listed joined behind
returns-clause-port c = rw (decimal_digit 1 (lit< tt), decimal_digit 5 (lit< tt), decimal_digit 7 (lit< tt)) refl

pub returns-clause-nameless : goal.returns-clause-nameless
unfolding explanation_text condition_text unknown_text listed joined behind
returns-clause-nameless c = rw (decimal_digit 3 (lit< tt)) refl

pub returns-clause-for_ports : goal.returns-clause-for_ports
unfolding explanation_text condition_text unknown_text
returns-clause-for_ports c = rw (decimal_digit 4 (lit< tt)) refl
