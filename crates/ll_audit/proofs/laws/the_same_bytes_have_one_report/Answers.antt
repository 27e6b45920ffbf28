use Rattle.std.proofs.Common.{◌≡◌, ◌∙◌, ℕ, List, sym, ap₂}
use Rattle.ll_rights.specs.declared.abi.Abi.{Abi}
use Rattle.ll_tree.specs.Trees.{Entry}
use Rattle.ll_tree.proofs.TreeLines.{in_one_way}
use Rattle.ll_trace.specs.declared.op.Record.{Record}
use Rattle.ll_trace.proofs.LawLemmas.{one_trace}
use Rattle.ll_semantics.specs.Worlds.{judged}
use Rattle.ll_report.specs.declared.report.Report.{Report}
use Rattle.ll_report.specs.Lines.{lines_of, refused_among}
use Rattle.ll_report.specs.Report.{report_text}
use Rattle.ll_audit.specs.Audits.{IsReport}
use Rattle.ll_audit.proofs.laws.the_same_bytes_have_one_report.Goals as goal

module _ (abi : Abi) (tree trace : List ℕ) (report other : Report) (first : IsReport abi tree trace report) (second : IsReport abi tree trace other) where
  same_tree : first.tree ≡ second.tree
  same_tree = in_one_way.one tree first.tree second.tree first.reads_tree second.reads_tree

  same_records : first.records ≡ second.records
  same_records = one_trace trace first.records second.records first.reads_trace second.reads_trace

  same_bytes : report.bytes.items ≡ other.bytes.items
  same_bytes =
      first.so.text
      ∙ ap₂ (λ (entries : List Entry) (records : List Record). report_text (lines_of records (judged entries abi records))) same_tree same_records
      ∙ sym second.so.text

  same_refused : report.refused ≡ other.refused
  same_refused =
      first.so.refused
      ∙ ap₂ (λ (entries : List Entry) (records : List Record). refused_among records (judged entries abi records)) same_tree same_records
      ∙ sym second.so.refused

pub returns-clause-bytes : goal.returns-clause-bytes
returns-clause-bytes c = λ abi tree trace report other first second. same_bytes abi tree trace report other first second

pub returns-clause-refused : goal.returns-clause-refused
returns-clause-refused c = λ abi tree trace report other first second. same_refused abi tree trace report other first second
