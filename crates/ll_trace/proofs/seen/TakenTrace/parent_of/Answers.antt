use Rattle.std.proofs.Common.{◌∙◌, sym, ap}
use Rattle.std.specs.Prelude.{slice_get}
use Rattle.std.specs.Option.{option_flatten}
use Rattle.ll_trace.specs.Processes.{parents}
use Rattle.ll_trace.proofs.Seeing.{count_seen, parents_seen}
use Rattle.ll_trace.proofs.seen.TakenTrace.parent_of.Goals as goal

pub parent_of-requires : goal.parent_of-requires
parent_of-requires c = rw (← count_seen c.self.inside.kernel.effort c.self.inside.kernel.abi c.self.inside.trace.now, c.self.view_is) c.requires

pub returns-clause-value : goal.returns-clause-value
returns-clause-value c =
    c.parent_of.ensures.value
    ∙ ap (λ all. option_flatten (slice_get all c.args.process.0))
    (sym (parents_seen c.self.inside.kernel.effort c.self.inside.kernel.abi c.self.inside.trace.now) ∙ ap parents c.self.view_is)
