use Rattle.std.proofs.Common.{◌∙◌, ◌&&◌, Bool, ap}
use Rattle.ll_rights.specs.Rights.{has}
use Rattle.ll_rules.proofs.LaneSets.{both_bits, alike_in_lane}
use Rattle.ll_rules.proofs.climb.asked_of.Goals as goal

pub returns : goal.returns
returns c = λ right.
    both_bits c.handled_bits.result c.bits_of.result right c.bits_of.type_inv
    ∙ alike_in_lane c.handled_bits.result c.bits_of.result c.args.wanted right (λ b. b) c.bits_of.ensures
    ∙ ap (λ (b : Bool). b && has c.args.wanted right) (c.handled_bits.ensures right)
