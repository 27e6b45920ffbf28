-- What the report says of the records of a trace and of the answers to them, and the names that it gives to errors,
-- which are those of errno(3).
-- Source: docs/FORMATS.md, "The report".
use Rattle.std.specs.Prelude.{ℕ, List, [], ◌∷◌, codes}
use Rattle.ll_rules.specs.declared.errno.Errno.{Errno}
use Rattle.ll_rules.specs.declared.errno.Errno.TheVariants.{Perm, BadFd, Acces, XDev, Inval, TooBig, NoMsg}
use Rattle.ll_trace.specs.declared.op.Record.{Record}
use Rattle.ll_trace.specs.Operations.{op_name}
use Rattle.ll_semantics.specs.declared.answer.Answer.{Answer}
use Rattle.ll_semantics.specs.declared.answer.Answer.TheVariants.{Allowed, Moot, Refused}
use Rattle.ll_report.specs.Report.{ReportLine, Verdict, allowed, moot, refused, count_of, is_refused}

-- the name of an error
abbrev pub error_name : Errno → List ℕ
error_name Perm = codes "EPERM"
error_name BadFd = codes "EBADF"
error_name Acces = codes "EACCES"
error_name XDev = codes "EXDEV"
error_name Inval = codes "EINVAL"
error_name TooBig = codes "E2BIG"
error_name NoMsg = codes "ENOMSG"

-- how an answer is told
abbrev pub verdict_of : Answer → Verdict
verdict_of Allowed = allowed
verdict_of Moot = moot
verdict_of (Refused error layers) = refused (error_name error) layers

-- what the report says of a record and its answer
abbrev pub line_of : Record → Answer → ReportLine
line_of r answer = record {
  line = r.line;
  pid = r.pid;
  op = op_name r.op;
  verdict = verdict_of answer;
}

-- what the report says of records, each with its answer
unfoldable pub lines_of : List Record → List Answer → List ReportLine
lines_of (r ∷ others) (answer ∷ answers) = line_of r answer ∷ lines_of others answers
lines_of records answers = []

-- how many records are refused
unfoldable pub refused_among : List Record → List Answer → ℕ
refused_among records answers = count_of is_refused (lines_of records answers)
