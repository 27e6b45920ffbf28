use Rattle.std.proofs.Common.{rules, ◌∙◌}
use Rattle.ll_fitting.specs.Written.{written}
use Rattle.ll_fitting.specs.Misfits.{layer_misfit}
use Rattle.ll_fitting.proofs.FirstSeen.{first_seen}
use Rattle.ll_fitting.proofs.policy.misfit_in.Goals as goal

pub returns : goal.returns
returns c =
    c.first_told.ensures (λ numbered. layer_misfit (numbered.0, written numbered.1)) (search rules)
    ∙ first_seen written layer_misfit 0 c.args.layers.now
