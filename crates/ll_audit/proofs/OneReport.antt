-- The report by plain options.
use Rattle.std.proofs.Common.{◌≡◌, ◌∙◌, ℕ, List, [], ◌∷◌, ap, map, refl, sym}
use Rattle.ll_rights.specs.AbiRanges.{versions_in}
use Rattle.ll_rights.specs.Abis.{all_versions, number_of}
use Rattle.ll_rights.specs.declared.abi.Abi.{Abi}
use Rattle.ll_rights.specs.declared.abi.Abi.TheVariants.{V1, V2, V3, V4, V5}
use Rattle.ll_tree.specs.Trees.{Entry}
use Rattle.ll_trace.specs.declared.op.Record.{Record}
use Rattle.ll_semantics.specs.Worlds.{judged}
use Rattle.ll_semantics.proofs.Steps.{length-judged}
use Rattle.ll_report.specs.declared.options.TheConstants.{ALL_LINES}
use Rattle.ll_report.specs.declared.report.Report.{Report}
use Rattle.ll_report.specs.Found.{Found, found_under}
use Rattle.ll_report.specs.Lines.{lines_of, refused_among}
use Rattle.ll_report.specs.Report.{report_text}
use Rattle.ll_report.specs.Rows.{refused_under_some, rows_text}
use Rattle.ll_report.specs.Made.{told_by}
use Rattle.ll_report.proofs.OneVersion.{is_refused_count, is_report_text}
use Rattle.ll_audit.specs.Audits.{BothRead, IsReport}
use Rattle.ll_audit.specs.ShownReports.{IsReportWith, findings, found_at, plain_options}

-- what follows from what is so of both files is so of them
pub so_of_both : {tree trace : List ℕ} {So Then : List Entry → List Record → Type 0} → ((entries : List Entry) (records : List Record)
    → So entries records → Then entries records) → BothRead tree trace So → BothRead tree trace Then
so_of_both follows is = record {
  tree = is.tree;
  records = is.records;
  reads_tree = is.reads_tree;
  reads_trace = is.reads_trace;
  so = follows is.tree is.records is.so;
}

-- a range of one version
only_version : (abi : Abi) → versions_in (record { oldest = abi; newest = abi }) ≡ abi ∷ []
unfolding versions_in all_versions
only_version V1 = refl
only_version V2 = refl
only_version V3 = refl
only_version V4 = refl
only_version V5 = refl

module _ (abi : Abi) (tree : List Entry) (records : List Record) where
  abbrev found : Found
  found = found_under ALL_LINES tree records abi

  only_finding : findings (plain_options abi) tree records ≡ found ∷ []
  only_finding = ap (λ (abis : List Abi). map (found_at (plain_options abi) tree records) abis) (only_version abi)

  pub plain_text : rows_text ALL_LINES (number_of abi) (findings (plain_options abi) tree records) records
      ≡ report_text (lines_of records (judged tree abi records))
  plain_text =
      ap (λ (founds : List Found). rows_text ALL_LINES (number_of abi) founds records) only_finding
      ∙ is_report_text found (number_of abi) records (length-judged tree abi records)

  pub plain_refused : refused_under_some (findings (plain_options abi) tree records) records ≡ refused_among records (judged tree abi records)
  plain_refused =
      ap (λ (founds : List Found). refused_under_some founds records) only_finding
      ∙ is_refused_count found records (length-judged tree abi records)

-- a report with these options is the report
pub with_all_lines : (abi : Abi) (tree trace : List ℕ) (report : Report) → IsReportWith (plain_options abi) tree trace (told_by report)
    → IsReport abi tree trace report
with_all_lines abi tree trace report = so_of_both (λ entries records so. record {
  text = so.text ∙ plain_text abi entries records;
  refused = so.refused ∙ plain_refused abi entries records;
})

-- and the report is one with these options
pub by_plain_options : (abi : Abi) (tree trace : List ℕ) (report : Report) → IsReport abi tree trace report
    → IsReportWith (plain_options abi) tree trace (told_by report)
by_plain_options abi tree trace report = so_of_both (λ entries records so. record {
  text = so.text ∙ sym (plain_text abi entries records);
  refused = so.refused ∙ sym (plain_refused abi entries records);
})
