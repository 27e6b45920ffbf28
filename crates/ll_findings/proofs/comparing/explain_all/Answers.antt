-- Where nothing was found before, all is found otherwise.
use Rattle.std.proofs.Common.{◌∙◌, ap, length, subst, sym}
use Rattle.ll_findings.specs.Findings.{AreKept, FindingValue}
use Rattle.ll_findings.proofs.Covering.{all_changed, as_many_changed}
use Rattle.ll_findings.proofs.comparing.explain_all.Goals as goal

pub returns-clause-as_many : goal.returns-clause-as_many
returns-clause-as_many g c =
    ap length c.into_explanations.ensures
    ∙ as_many_changed c.args.case.now c.nothing-nothing.result c.in_ok-changes.changes
    (ap (λ (found : FindingValue). found.answers) c.nothing-nothing.ensures) c.in_ok-changes.ensures

pub returns-clause-each : goal.returns-clause-each
returns-clause-each g c =
    let case = c.args.case.now in
    subst (AreKept case.tree case.abi case.records) (sym c.into_explanations.ensures)
    (all_changed case c.nothing-nothing.result c.in_ok-changes.changes (ap (λ (found : FindingValue). found.answers) c.nothing-nothing.ensures)
    c.in_ok-changes.ensures)
