use Rattle.std.proofs.Common.{arith}
use Rattle.ll_audit.proofs.VersionByVersion.{all_versions_found, next_down}
use Rattle.ll_audit.proofs.ranging.Progress.through.Goals as goal

pub loop-index-preserved : goal.loop-index-preserved
loop-index-preserved g c = (
  c.in_ok-progress.ensures.of_it,
  next_down c.args.audit.now.options.now c.args.located.now c.all-versions.result.now c.loop-index.index _
      c.loop-index.progress c.in_ok-progress.progress
      (omega (arith, c.loop-index-test.true)) c.loop-index.auto.index c.loop-index.invariant.1
      c.in_ok-progress.ensures.further,
)

pub returns-clause-through : goal.returns-clause-through
returns-clause-through g c =
    all_versions_found c.args.audit.now.options.now c.args.located.now
    c.all-versions.result.now c.loop-index.index c.loop-index.progress c.all-versions.ensures (omega (arith, c.loop-index-test.false)) c.loop-index.invariant.1
