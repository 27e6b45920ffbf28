use Rattle.std.proofs.Common.{rules}
use Rattle.ll_rules.proofs.ruleset.Layer.copied.Goals as goal

pub returns-in_err-again : goal.returns-in_err-again
returns-in_err-again c = search rules

pub returns-in_err-clone : goal.returns-in_err-clone
returns-in_err-clone c = search rules

pub returns : goal.returns
returns c = search rules
