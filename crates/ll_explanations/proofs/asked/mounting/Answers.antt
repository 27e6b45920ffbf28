use Rattle.std.proofs.Common.{◌∙◌, sym}
use Rattle.ll_explanations.specs.Confined.{rules_of}
use Rattle.ll_explanations.proofs.Objecting.{mounting_none, mounting_some}
use Rattle.ll_explanations.proofs.asked.mounting.Goals as goal

pub returns-then-handles_files-clause-said : goal.returns-then-handles_files-clause-said
returns-then-handles_files-clause-said c = mounting_some (rules_of c.args.layer.now) (sym c.handles_files.ensures ∙ c.if-handles_files.true)

pub returns-else-handles_files-clause-said : goal.returns-else-handles_files-clause-said
returns-else-handles_files-clause-said c = mounting_none (rules_of c.args.layer.now) (sym c.handles_files.ensures ∙ c.if-handles_files.false)
