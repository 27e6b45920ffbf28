use Rattle.std.proofs.Common.{◌∙◌, sym}
use Rattle.ll_explanations.specs.Confined.{rules_of}
use Rattle.ll_explanations.proofs.Objecting.{closed_none, closed_some}
use Rattle.ll_explanations.proofs.asked.closed.Goals as goal

pub returns-then-not-lacks_on_port-clause-said : goal.returns-then-not-lacks_on_port-clause-said
returns-then-not-lacks_on_port-clause-said c =
    closed_none (rules_of c.args.layer.now) c.args.port c.args.right (sym c.lacks_on_port.ensures ∙ c.if-not-lacks_on_port.true)

pub returns-clause-said : goal.returns-clause-said
returns-clause-said c =
    closed_some (rules_of c.args.layer.now) c.args.port c.args.right c.requires (sym c.lacks_on_port.ensures ∙ c.if-not-lacks_on_port.false)
