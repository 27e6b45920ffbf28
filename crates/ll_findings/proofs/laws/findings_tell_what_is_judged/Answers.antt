use Rattle.ll_findings.proofs.FindingTells.{tells, tells_nothing}
use Rattle.ll_findings.proofs.laws.findings_tell_what_is_judged.Goals as goal

pub returns-clause-told : goal.returns-clause-told
returns-clause-told c = tells

pub returns-clause-nothing : goal.returns-clause-nothing
returns-clause-nothing c = tells_nothing
