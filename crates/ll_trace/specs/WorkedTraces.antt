-- Worked trace files: what is wrong with some, and the records of others.
-- Source: docs/FORMATS.md, "The trace file" and "What does not read".
use Rattle.std.specs.Prelude.{ℕ, List, [], ◌∷◌, ◌++◌, codes, true, false}
use Rattle.ll_lines.specs.declared.fault.Cause.{Cause}
use Rattle.ll_lines.specs.declared.fault.Cause.TheVariants.{Json, Field, BadPath, UnknownProcess, Twice}
use Rattle.ll_lines.specs.declared.fault.ReadFault.{ReadFault}
use Rattle.ll_rights.specs.Rights as files
use Rattle.ll_trace.specs.declared.op.Op.{Op}
use Rattle.ll_trace.specs.declared.op.Op.TheVariants.{Start, Fork, Exit, Nnp, Create, AddPath, Rename, Mount}
use Rattle.ll_trace.specs.declared.op.Record.{Record}

-- the first line of most of them
abbrev pub start : List ℕ
start = codes "{\"op\":\"start\",\"pid\":10}\n"

abbrev pub at : ℕ → Cause → ReadFault
at line cause = record { line = line; cause = cause }

-- files with a fault: the first faulty line of each, and why
abbrev pub faulty : List (List ℕ × ReadFault)
faulty =
    -- a process that never started
    (codes "{\"op\":\"nnp\",\"pid\":10}", at 1 UnknownProcess)
    -- one that is started twice
    ∷ (start ++ codes "{\"op\":\"start\",\"pid\":10}", at 2 Twice)
    -- one that has exited
    ∷ (start ++ codes "{\"op\":\"exit\",\"pid\":10}\n{\"op\":\"nnp\",\"pid\":10}", at 3 UnknownProcess)
    -- one that is its own child
    ∷ (start ++ codes "{\"op\":\"fork\",\"pid\":10,\"child\":10}", at 2 Twice)
    -- a child that is forked twice
    ∷ (start ++ codes "{\"op\":\"fork\",\"pid\":10,\"child\":11}\n{\"op\":\"fork\",\"pid\":10,\"child\":11}", at 3 Twice)
    -- one that has exited
    ∷ (
      start ++ codes "{\"op\":\"fork\",\"pid\":10,\"child\":11}\n{\"op\":\"exit\",\"pid\":11}\n{\"op\":\"nnp\",\"pid\":11}",
      at 4 UnknownProcess,
    )
    -- no operation of this name
    ∷ (codes "{\"op\":\"nosuch\",\"pid\":10}", at 1 Field)
    -- a line that is cut short
    ∷ (
      start ++ codes "{\"op\":\"nnp\",\"pid\":10}\n{\"op\":\"create\",\"pid\":10,\"rs\":3,\"fs\":[\"read_file\"]}\n"
          ++ codes "{\"op\":\"add_path\",\"pid\":10,\"rs\":3,\"path\":\"/a\",\"fs\":[\"read_file\"]}\n{\"op\":\"restrict\",\"pid\":10,\"rs\":3}\n"
          ++ codes "{\"op\":\"open\",\"pid\":10,\"path\":\"/a/f\",\"fd\":4,\"mode\":\"r\"}\n"
          ++ codes "{\"op\":\"open\",\"pid\":10,\"path\":\"/b/g\",\"fd\":5,\"mode\":\"r\"}\n{\"op\":\"open\",\"pid\":10,\"path\":\"/b/",
      at 8 Json,
    )
    -- pids that are too large, a fraction, negative and null
    ∷ (codes "{\"op\":\"start\",\"pid\":18446744073709551616}", at 1 Field)
    ∷ (codes "{\"op\":\"start\",\"pid\":1.0}", at 1 Field)
    ∷ (codes "{\"op\":\"start\",\"pid\":-1}", at 1 Field)
    ∷ (codes "{\"op\":\"start\",\"pid\":null}", at 1 Field)
    -- a flag that is null
    ∷ (codes "{\"op\":\"start\",\"pid\":10,\"nnp\":null}", at 1 Field)
    -- two values on a line
    ∷ (codes "{\"op\":\"start\",\"pid\":10} {\"op\":\"exit\",\"pid\":10}", at 1 Json)
    -- no object
    ∷ (codes "\n[]", at 2 Field)
    -- paths, of which a member before them may be at fault first, and an operation after them
    ∷ (start ++ codes "{\"op\":\"exec\",\"pid\":10,\"path\":\"a\"}", at 2 BadPath)
    ∷ (start ++ codes "{\"op\":\"rename\",\"pid\":10,\"from\":\"a\",\"to\":\"/b\",\"exchange\":1}", at 2 Field)
    ∷ (codes "{\"op\":\"exec\",\"pid\":10,\"path\":\"/a/\"}", at 1 BadPath)
    -- a port that is too large
    ∷ (start ++ codes "{\"op\":\"bind\",\"pid\":10,\"port\":65536}", at 2 Field)
    -- no mode of this name
    ∷ (start ++ codes "{\"op\":\"open\",\"pid\":10,\"path\":\"/a\",\"fd\":3,\"mode\":\"x\"}", at 2 Field)
    ∷ []

abbrev pub one : ℕ → ℕ → ℕ → Op → Record
one line process pid op = record { line = line; process = record { 0 = process }; pid = pid; op = op }

-- files that read, and their records: line, process, pid and operation
abbrev pub whole : List (List ℕ × List Record)
whole =
    -- a pid that is used again
    (
      start ++ codes "{\"op\":\"exit\",\"pid\":10}\n{\"op\":\"start\",\"pid\":10}",
      one 1 0 10 (Start false false) ∷ one 2 0 10 Exit ∷ one 3 1 10 (Start false false) ∷ [],
    )
    ∷ (
      start ++ codes "{\"op\":\"fork\",\"pid\":10,\"child\":11}\n{\"op\":\"exit\",\"pid\":11}\n{\"op\":\"start\",\"pid\":11}\n"
          ++ codes "{\"op\":\"exit\",\"pid\":11}\n{\"op\":\"fork\",\"pid\":10,\"child\":11}\n{\"op\":\"nnp\",\"pid\":11}",
      one 1 0 10 (Start false false) ∷ one 2 0 10 (Fork 11) ∷ one 3 1 11 Exit ∷ one 4 2 11 (Start false false) ∷ one 5 2 11 Exit
          ∷ one 6 0 10 (Fork 11) ∷ one 7 3 11 Nnp ∷ [],
    )
    -- of two members of a name the last counts
    ∷ (codes "{\"op\":\"start\",\"pid\":9,\"pid\":10}", one 1 0 10 (Start false false) ∷ [])
    -- the largest pid
    ∷ (codes "{\"op\":\"start\",\"pid\":18446744073709551615}", one 1 0 18446744073709551615 (Start false false) ∷ [])
    -- blank lines
    ∷ (
      codes "\n \t\r\n{\"op\":\"start\",\"pid\":10,\"nnp\":true}\r\n\n{\"op\":\"mount\",\"pid\":10}\n",
      one 3 0 10 (Start true false) ∷ one 5 0 10 Mount ∷ [],
    )
    -- sets and paths
    ∷ (
      codes "{\"op\":\"start\",\"pid\":10,\"admin\":true}\n"
          ++ codes "{\"op\":\"create\",\"pid\":10,\"rs\":3,\"fs\":[\"read_file\",\"write_file\",\"read_file\"]}\n"
          ++ codes "{\"op\":\"add_path\",\"pid\":10,\"rs\":3,\"path\":\"/a/f\",\"fs\":[\"nosuch\"]}\n"
          ++ codes "{\"op\":\"rename\",\"pid\":10,\"from\":\"/a\",\"to\":\"/b\"}",
      one 1 0 10 (Start false true) ∷ one 2 0 10 (Create 3 (record { 0 = 6 }) (record { 0 = 0 }))
          ∷ one 3 0 10 (AddPath 3 (codes "/a/f") (files.only files.other)) ∷ one 4 0 10 (Rename (codes "/a") (codes "/b") false) ∷ [],
    )
    ∷ []
