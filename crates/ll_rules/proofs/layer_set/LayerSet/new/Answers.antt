use Rattle.std.proofs.Common.{rules}
use Rattle.ll_rules.specs.LayerNumbers.{is_at_bit, passing_upto}
use Rattle.ll_rules.proofs.layer_set.LayerSet.new.Goals as goal

pub invariant_of-result : goal.invariant_of-result
unfolding passing_upto is_at_bit
invariant_of-result c = search rules

pub returns : goal.returns
unfolding passing_upto is_at_bit
returns c = search rules
