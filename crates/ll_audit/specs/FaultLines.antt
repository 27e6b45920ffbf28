-- The lines that the program writes to standard error, and its status with each.
-- Source: docs/FORMATS.md, "Faults of a run".
use Rattle.std.specs.Prelude.{ℕ, List, Option, Result, OnErr, OnOk, ◌++◌, codes, decimal}
use Rattle.std.specs.Io.KnownBytes.{Appends}
use Rattle.ll_lines.specs.declared.fault.Cause.{Cause}
use Rattle.ll_lines.specs.declared.fault.Cause.TheVariants as cause
use Rattle.ll_lines.specs.declared.fault.ReadFault.{ReadFault}
use Rattle.ll_report.specs.Writing.{AppendsPart}
use Rattle.ll_audit.specs.declared.fault.Fault.{Fault}
use Rattle.ll_audit.specs.declared.fault.Fault.TheVariants as fault
use Rattle.ll_audit.specs.declared.lines.Failure.{Failure}
use Rattle.ll_audit.specs.declared.lines.Failure.TheVariants as failure

-- the name of a cause
abbrev pub cause_name : Cause → List ℕ
cause_name cause.Json = codes "Json"
cause_name cause.Field = codes "Field"
cause_name cause.BadPath = codes "BadPath"
cause_name cause.NoParent = codes "NoParent"
cause_name cause.Twice = codes "Twice"
cause_name cause.TooMany = codes "TooMany"
cause_name cause.UnknownProcess = codes "UnknownProcess"
cause_name cause.Memory = codes "Memory"

-- which line of a file is wrong, and why
abbrev pub read_fault_text : List ℕ → ReadFault → List ℕ
read_fault_text file fault = file ++ codes " line " ++ decimal fault.line ++ codes ": " ++ cause_name fault.cause

-- what a line says of an audit; the program asks for no number of workers that there can't be
abbrev pub fault_text : Fault → List ℕ
fault_text (fault.Tree bad) = read_fault_text (codes "tree") bad
fault_text (fault.Trace bad) = read_fault_text (codes "trace") bad
fault_text fault.Workers = codes "no such number of workers"
fault_text fault.Memory = codes "no memory"
fault_text fault.NoThread = codes "no thread"

-- what a line says
abbrev pub failure_text : Failure → List ℕ
failure_text (failure.Audit one) = fault_text one
failure_text (failure.Unread name) = codes "cannot read " ++ name.now
failure_text failure.Unwritten = codes "cannot write"

-- the line that says this, with the program's name before it
unfoldable pub error_line : List ℕ → List ℕ
error_line text = codes "landaudit: " ++ text ++ codes "\n"

abbrev pub failure_line : Failure → List ℕ
failure_line failure = error_line (failure_text failure)

abbrev pub fault_line : Fault → List ℕ
fault_line one = error_line (fault_text one)

-- known bytes grow by the line, if it could be written, and else by a beginning of it that isn't the line
unfoldable pub WritesLine : {A E : Type 0} → Result A E → Option (List ℕ) → Option (List ℕ) → List ℕ → Type 0
WritesLine result old new line = OnOk result (Appends old new line) × OnErr result (AppendsPart old new line)

-- the status: 3 where a file is at fault, else 4
abbrev pub failure_status : Failure → ℕ
failure_status (failure.Audit (fault.Tree bad)) = 3
failure_status (failure.Audit (fault.Trace bad)) = 3
failure_status (failure.Unread name) = 3
failure_status _ = 4
