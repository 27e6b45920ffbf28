use Rattle.ll_enforcing.proofs.InForce.{puts_in_force}
use Rattle.ll_enforcing.proofs.calls.enforce.Goals as goal

pub returns-in_err-layers-clause-in_force : goal.returns-in_err-layers-clause-in_force
returns-in_err-layers-clause-in_force c =
    λ tree missing rs process world may. puts_in_force tree missing rs c.args.abi c.args.policy.now process world c.fit.ensures.fits may

pub returns-clause-in_force : goal.returns-clause-in_force
returns-clause-in_force c =
    λ tree missing rs process world may. puts_in_force tree missing rs c.args.abi c.args.policy.now process world c.fit.ensures.fits may
