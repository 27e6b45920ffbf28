use Rattle.std.proofs.Common.{◌∙◌, sym, ap}
use Rattle.ll_trace.specs.Processes.{process_count}
use Rattle.ll_trace.proofs.Seeing.{count_seen}
use Rattle.ll_trace.proofs.seen.TakenTrace.processes.Goals as goal

pub returns-clause-count : goal.returns-clause-count
returns-clause-count c =
    c.processes.ensures.count ∙ sym (count_seen c.self.inside.kernel.effort c.self.inside.kernel.abi c.self.inside.trace.now) ∙ ap process_count c.self.view_is
