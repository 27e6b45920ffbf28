use Rattle.std.proofs.Common.{rules}
use Rattle.ll_explanations.proofs.paths.text_of.Goals as goal

pub returns-in-First-clause-text : goal.returns-in-First-clause-text
returns-in-First-clause-text c = search rules

pub returns-in-First-clause-shape : goal.returns-in-First-clause-shape
returns-in-First-clause-shape c = search rules

pub returns-in-Second-clause-text : goal.returns-in-Second-clause-text
returns-in-Second-clause-text c = search rules

pub returns-in-Second-clause-shape : goal.returns-in-Second-clause-shape
returns-in-Second-clause-shape c = search rules
