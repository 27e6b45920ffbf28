use Rattle.std.proofs.Common.{drop}
use Rattle.ll_audit.specs.Ranging.{IsOf}
use Rattle.ll_audit.proofs.VersionByVersion.{IsReached}
use Rattle.ll_audit.proofs.ranging.Progress.through.Given as goal

-- the versions from this index on are gone over
abbrev pub invariant-loop-index : goal.invariant-loop-index
invariant-loop-index g l = IsOf l.fn.located l.progress × IsReached l.audit.options.now l.fn.located (drop l.index l.versions) l.progress
