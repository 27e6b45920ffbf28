use Rattle.std.proofs.Common.{arith, inl, inr}
use Rattle.ll_rules.proofs.LayerNumbers.{has_by_shift, has_outside}
use Rattle.ll_rules.proofs.layer_set.LayerSet.has.Goals as goal
use Rattle.ll_rules.proofs.layer_set.LayerSet.has.Goals.{then-number-eq0-via-then-number-eq0, then-number-eq0-via-else-number-eq0+then-number}

pub returns-then-number-eq0 : goal.returns-then-number-eq0
returns-then-number-eq0 c =
    rw (← c.self.view_is)
    (elim c.then-number-eq0.branch [
      | then-number-eq0-via-then-number-eq0 w ↦ has_outside c.self.inside c.args.number (inl w.if-number-eq0.true)
      | then-number-eq0-via-else-number-eq0+then-number w ↦ has_outside c.self.inside c.args.number (inr w.if-number.true)
    ])

pub returns : goal.returns
returns c = rw (← c.self.view_is) (has_by_shift c.self.inside c.args.number (omega arith) (omega arith))
