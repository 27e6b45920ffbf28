-- What an audit answers: the report, or why there is none. Also how many threads may judge.
-- Source: docs/FORMATS.md, "The report", "The command line" and "Faults of a run"; docs/SEMANTICS.md.
use Rattle.std.specs.Prelude.{◌≡◌, ◌≤◌, ℕ, List}
use Rattle.ll_rights.specs.declared.abi.Abi.{Abi}
use Rattle.ll_lines.specs.Reading.{IsBad}
use Rattle.ll_tree.specs.TreeReading.{IsTreeOf, tree_format}
use Rattle.ll_tree.specs.Trees.{Entry}
use Rattle.ll_trace.specs.declared.op.Record.{Record}
use Rattle.ll_trace.specs.Entries.{trace_file}
use Rattle.ll_trace.specs.Records.{IsTrace}
use Rattle.ll_semantics.specs.Worlds.{judged}
use Rattle.ll_report.specs.declared.report.Report.{Report}
use Rattle.ll_report.specs.Lines.{lines_of, refused_among}
use Rattle.ll_report.specs.Report.{report_text}
use Rattle.ll_audit.specs.declared.fault.Fault.{Fault}
use Rattle.ll_audit.specs.declared.fault.Fault.TheVariants as fault

-- a number of threads that may judge
abbrev pub IsWorkerCount : ℕ → Type 0
IsWorkerCount workers = (1 ≤ workers) × (workers ≤ 64)

-- the report on records whose calls meet this tree: the answers are those of one fold over all records
pub record IsReportOn (tree : List Entry) (abi : Abi) (records : List Record) (report : Report) : Type 0 where
  pub text : report.bytes.items ≡ report_text (lines_of records (judged tree abi records))
  pub refused : report.refused ≡ refused_among records (judged tree abi records)

-- the bytes of both files read, and this is so of what they say
pub record BothRead (tree_bytes trace_bytes : List ℕ) (So : List Entry → List Record → Type 0) : Type 0 where
  pub tree : List Entry
  pub records : List Record
  pub reads_tree : IsTreeOf tree_bytes tree
  pub reads_trace : IsTrace trace_bytes records
  pub so : So tree records

-- the report on what both files say
abbrev pub IsReport : Abi → List ℕ → List ℕ → Report → Type 0
IsReport abi tree_bytes trace_bytes report = BothRead tree_bytes trace_bytes (λ tree records. IsReportOn tree abi records report)

-- some tree is what the bytes read as
abbrev pub ReadsAsTree : List ℕ → Type 0
ReadsAsTree bytes = (tree : List Entry) × IsTreeOf bytes tree

-- some records are what the bytes read as
abbrev pub ReadsAsTrace : List ℕ → Type 0
ReadsAsTrace bytes = (records : List Record) × IsTrace bytes records

-- Why there is no report: the tree doesn't read, or it does and the trace doesn't. A thread is missing only where both
-- read. Being out of memory says nothing of the files.
abbrev pub IsFaultOf : ℕ → List ℕ → List ℕ → Fault → Type 0
IsFaultOf workers tree_bytes trace_bytes fault.Workers = IsWorkerCount workers → ⊥
IsFaultOf workers tree_bytes trace_bytes (fault.Tree bad) = IsWorkerCount workers × IsBad tree_format tree_bytes bad
IsFaultOf workers tree_bytes trace_bytes (fault.Trace bad) = IsWorkerCount workers × ReadsAsTree tree_bytes × IsBad trace_file trace_bytes bad
IsFaultOf workers tree_bytes trace_bytes fault.Memory = IsWorkerCount workers
IsFaultOf workers tree_bytes trace_bytes fault.NoThread = IsWorkerCount workers × ReadsAsTree tree_bytes × ReadsAsTrace trace_bytes
