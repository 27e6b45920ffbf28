use Rattle.ll_shared.proofs.Leaves.{nothing_there}
use Rattle.ll_shared.proofs.low_map.LowMap+V.new.Goals as goal

pub returns : goal.returns
returns g c = λ key. nothing_there (record { low = c.new.result; high = c.new-2.result }) key c.new.ensures.items c.new-2.ensures
