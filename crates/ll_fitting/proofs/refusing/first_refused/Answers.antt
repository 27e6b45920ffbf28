use Rattle.std.proofs.Common.{rules, ◌∙◌}
use Rattle.ll_fitting.specs.Fitting.{shown}
use Rattle.ll_fitting.specs.Taken.{refused_in}
use Rattle.ll_fitting.proofs.FirstSeen.{first_unnumbered}
use Rattle.ll_fitting.proofs.refusing.first_refused.Goals as goal

pub returns : goal.returns
returns c =
    c.first_told.ensures (λ numbered. refused_in (shown numbered.1)) (search rules)
    ∙ first_unnumbered shown refused_in 0 c.args.layers.now
