-- The indices before the position are below the one that is looked for.
use Rattle.std.proofs.Common.{◌<◌, ℕ, get_or}
use Rattle.ll_findings.proofs.indices.Indices.find.Given as goal

abbrev pub invariant-loop-position : goal.invariant-loop-position
invariant-loop-position l = (at : ℕ) → at < l.position → get_or l.self at 0 < l.index
