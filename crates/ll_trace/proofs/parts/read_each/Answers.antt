-- What several threads read of the parts is read of their lines.
use Rattle.std.proofs.Common.{◌∙◌}
use Rattle.rayon.proofs.ListFacts.{IfOk-then}
use Rattle.ll_trace.proofs.parts.read_each.Goals as goal

pub returns : goal.returns
returns g c =
    IfOk-then c.collect.result _ _ c.collect.ensures (λ reads read.
    let parts = (rw (c.with_min_len.ensures.base, c.map.ensures.base) at read.1.1) ∙ c.into_par_iter.ensures in
    rw (read.2, ← parts) read.1.2)
