use Rattle.ll_policy.proofs.Apart.{stricter_lets_more_nowhere, both_let_more_nowhere}
use Rattle.ll_policy.proofs.laws.equal_policies_may_move_apart.Goals as goal

pub returns-clause-forth : goal.returns-clause-forth
returns-clause-forth c is_file right chain is begins passing = stricter_lets_more_nowhere is_file right chain is begins passing

pub returns-clause-back : goal.returns-clause-back
returns-clause-back c is_file right chain is begins passing = both_let_more_nowhere is_file right chain is begins passing
