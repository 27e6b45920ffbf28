use Rattle.std.proofs.Common.{◌∙◌, ◌&&◌, not, Bool, ap}
use Rattle.ll_rights.specs.Rights.{has}
use Rattle.ll_rules.specs.Lanes.{set_of}
use Rattle.ll_rules.proofs.LaneSets.{nothing_left}
use Rattle.ll_rules.proofs.climb.left_of.Goals as goal

pub returns-then-lane-eq0-clause-left : goal.returns-then-lane-eq0-clause-left
returns-then-lane-eq0-clause-left c = λ right. nothing_left c.args.lane right _ c.if-lane-eq0.true

pub returns-clause-left : goal.returns-clause-left
returns-clause-left c = λ right.
    c.without_granted.ensures right ∙ ap (λ (b : Bool). has (set_of c.args.lane) right && not b) (c.rule_on.ensures.rule right)
