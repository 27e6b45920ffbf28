use Rattle.std.proofs.Common.{◌∙◌, not}
use Rattle.ll_rules.proofs.LaneSets.{alike_in_lane, without_bits}
use Rattle.ll_rules.proofs.lanes.without_granted.Goals as goal

pub returns : goal.returns
returns c = λ right.
    without_bits c.args.lane c.bits_of.result right c.ranges.lane.fits c.bits_of.type_inv
    ∙ alike_in_lane c.args.lane c.bits_of.result c.args.granted right not c.bits_of.ensures
