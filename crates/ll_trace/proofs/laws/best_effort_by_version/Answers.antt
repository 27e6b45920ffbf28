-- Best effort leaves the records of a version that supports all rights,
-- and an older version leaves the same of what a newer one left.
use Rattle.ll_trace.proofs.Versions.{records-supported, records-older}
use Rattle.ll_trace.proofs.laws.best_effort_by_version.Goals as goal

pub returns-clause-supported : goal.returns-clause-supported
returns-clause-supported c = records-supported

pub returns-clause-older : goal.returns-clause-older
returns-clause-older c = records-older
