-- A record forks under a kernel if it was recorded as a fork.
use Rattle.std.proofs.Common.{◌∙◌, sym, ap}
use Rattle.ll_trace.specs.Processes.{forked_at}
use Rattle.ll_trace.proofs.Numbers.{fork-starts, forked_at-from, forked_at-none, started_at-from}
use Rattle.ll_trace.proofs.Seeing.{forked_seen, item_at}
use Rattle.ll_trace.proofs.seen.TakenTrace.child_at.Goals as goal

pub returns-then-is_fork : goal.returns-then-is_fork
returns-then-is_fork c =
    let here = item_at c.self.inside.kernel.effort c.self.inside.kernel.abi c.self.inside.trace.now c.args.index c.index-records-index.result _ _
    c.records.ensures.value c.self.view_is c.requires c.index-records-index.is in
    let forks = sym c.is_fork.ensures ∙ c.if-is_fork.true in
    c.starts.ensures
    ∙ started_at-from c.self.inside.trace.now c.args.index c.index-records-index.result here (fork-starts c.index-records-index.result.op forks)
    ∙ sym (forked_at-from c.self.inside.trace.now c.args.index c.index-records-index.result here forks)
    ∙ sym (forked_seen c.self.inside.kernel.effort c.self.inside.kernel.abi c.self.inside.trace.now c.args.index)
    ∙ ap (λ rs. forked_at rs c.args.index) c.self.view_is

pub returns-else-is_fork : goal.returns-else-is_fork
returns-else-is_fork c =
    let here = item_at c.self.inside.kernel.effort c.self.inside.kernel.abi c.self.inside.trace.now c.args.index c.index-records-index.result _ _
    c.records.ensures.value c.self.view_is c.requires c.index-records-index.is in
    sym (forked_at-none c.self.inside.trace.now c.args.index c.index-records-index.result here (sym c.is_fork.ensures ∙ c.if-is_fork.false))
    ∙ sym (forked_seen c.self.inside.kernel.effort c.self.inside.kernel.abi c.self.inside.trace.now c.args.index)
    ∙ ap (λ rs. forked_at rs c.args.index) c.self.view_is
