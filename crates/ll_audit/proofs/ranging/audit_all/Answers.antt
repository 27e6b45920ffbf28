use Rattle.std.proofs.Common.{List, arith, subst}
use Rattle.std.proofs.lemmas.List.{length-map}
use Rattle.std.proofs.lemmas.Slice.Zip.{AllZip-long}
use Rattle.ll_rights.specs.AbiRanges.{versions_in}
use Rattle.ll_rights.proofs.AbiRanges.{small_number}
use Rattle.ll_tree.specs.Trees.{Entry}
use Rattle.ll_trace.specs.declared.op.Record.{Record}
use Rattle.ll_json.specs.Reports.{AreFound, IsFound}
use Rattle.ll_audit.specs.ShownReports.{version_at, versions_by}
use Rattle.ll_audit.proofs.VersionByVersion.{few_asked}
use Rattle.ll_audit.proofs.ranging.audit_all.Goals as goal

pub returns-clause-findings : goal.returns-clause-findings
returns-clause-findings g c =
    let options = c.args.audit.now.options.now in
    let findings = c.in_ok-findings.findings in
    subst (λ (records : List Record). AreFound options.shown.explanations c.args.tree records (versions_by options records) findings)
    c.in_ok-located.ensures.trace
    (subst (λ (tree : List Entry). AreFound options.shown.explanations tree c.in_ok-located.located.trace
    (versions_by options c.in_ok-located.located.trace) findings) c.in_ok-located.ensures.tree c.in_ok-findings.ensures.findings)

-- the numbers of versions are small, and there are few
pub returns-clause-few : goal.returns-clause-few
returns-clause-few g c =
    let options = c.args.audit.now.options.now in
    let located = c.in_ok-located.located in
    omega (
      arith,
      small_number options.abis.oldest,
      few_asked options,
      length-map (versions_in options.abis) (version_at options located.trace),
      AllZip-long (IsFound options.shown.explanations located.tree located.trace) (versions_by options located.trace) c.in_ok-findings.findings
          c.in_ok-findings.ensures.findings,
    )
