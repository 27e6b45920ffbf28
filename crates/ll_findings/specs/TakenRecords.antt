-- What the records of a trace have in common with what a kernel takes them for.
-- Source: landlock(7), "VERSIONS"; the kernel's userspace document on Landlock, "Defining and enforcing a security policy".
use Rattle.std.specs.Prelude.{◌≡◌, true, false, List}
use Rattle.std.specs.List.{AllZip}
use Rattle.ll_trace.specs.declared.op.Record.{Record}
use Rattle.ll_trace.specs.Operations.{paths_of}
use Rattle.ll_trace.specs.Borrowed.{is_of_rights}

-- a record of a trace, and what it is taken for, which names the same paths
pub record IsTaken (r taken : Record) : Type 0 where
  pub line : r.line ≡ taken.line
  pub process : r.process ≡ taken.process
  pub pid : r.pid ≡ taken.pid
  pub paths : paths_of r.op ≡ paths_of taken.op
  pub same : is_of_rights r.op ≡ false → r.op ≡ taken.op
  pub other : is_of_rights r.op ≡ true → is_of_rights taken.op ≡ true

-- all records are
abbrev pub AreTaken : List Record → List Record → Type 0
AreTaken = AllZip IsTaken
