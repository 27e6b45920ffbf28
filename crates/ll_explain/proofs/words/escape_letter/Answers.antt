use Rattle.std.proofs.Common.{rules}
use Rattle.ll_explain.proofs.words.escape_letter.Goals as goal

pub returns-in-34 : goal.returns-in-34
returns-in-34 c = search rules

pub returns-in-8 : goal.returns-in-8
returns-in-8 c = search rules

pub returns-in_default : goal.returns-in_default
returns-in_default c = search rules
