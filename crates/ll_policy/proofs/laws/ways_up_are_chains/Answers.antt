use Rattle.ll_policy.proofs.Bridge.{way_up_chain}
use Rattle.ll_policy.proofs.laws.ways_up_are_chains.Goals as goal

pub returns-clause-chain : goal.returns-clause-chain
returns-clause-chain c tree nodes object listed inside within = way_up_chain tree nodes object listed inside within
