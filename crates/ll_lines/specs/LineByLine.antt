-- The reading of a file one line after another, which meets the first fault or all entries: the lines as it sees them,
-- blocks of whole lines, and that a file is read in one way.
-- Source: docs/FORMATS.md, "Lines" and "What does not read".
use Rattle.std.specs.Prelude.{◌≡◌, ◌⊎◌, ℕ, ◌==◌, List, [], ◌∷◌, ◌++◌, count_by, Option, Some, None, Result, Ok, Err}
use Rattle.ll_lines.specs.declared.fault.Cause.{Cause}
use Rattle.ll_lines.specs.declared.fault.ReadFault.{ReadFault}
use Rattle.ll_lines.specs.declared.lines.FileLine.{FileLine}
use Rattle.ll_lines.specs.Members.{◌>>=◌}
use Rattle.ll_lines.specs.Lines.{Line, filled_lines}
use Rattle.ll_lines.specs.Readers.{IsUnlessMemory}
use Rattle.ll_lines.specs.Reading.{Format, IsBad}

-- ---- lines, and blocks of whole lines

-- a line as the reading of a file sees it
abbrev pub line_view : FileLine → Line
line_view line = record { number = line.number; bytes = line.bytes.now }

-- how many line feeds there are
abbrev pub line_feeds : List ℕ → ℕ
line_feeds bytes = count_by (λ byte. byte == 10) bytes

-- bytes of which the last is a line feed
abbrev pub EndsLine : List ℕ → Type 0
EndsLine bytes = (front : List ℕ) × (bytes ≡ front ++ 10 ∷ [])

-- ---- the reading

-- the entries, and one more if it has no fault after them
abbrev pub add_unless : {Entry : Type 0} → List Entry → Entry → Option Cause → Result (List Entry) Cause
add_unless earlier entry None = Ok (earlier ++ entry ∷ [])
add_unless earlier entry (Some cause) = Err cause

abbrev pub with_entry : {Entry : Type 0} → Format Entry → List Entry → Entry → Result (List Entry) Cause
with_entry format earlier entry = add_unless earlier entry (format.fault_after earlier entry)

abbrev pub with_line : {Entry : Type 0} → Format Entry → List Entry → Line → Result (List Entry) Cause
with_line format earlier line = do
  entry ← format.entry_of_line line
  with_entry format earlier entry

-- reading on behind a line, or its fault
abbrev pub go_on : {Entry : Type 0} → ℕ → (List Entry → Result (List Entry) ReadFault) → Result (List Entry) Cause → Result (List Entry) ReadFault
go_on number others (Ok entries) = others entries
go_on number others (Err cause) = Err (record { line = number; cause = cause })

-- the lines read one after another
unfoldable pub read_lines : {Entry : Type 0} → Format Entry → List Entry → List Line → Result (List Entry) ReadFault
read_lines format earlier [] = Ok earlier
read_lines format earlier (line ∷ others) = go_on line.number (λ entries. read_lines format entries others) (with_line format earlier line)

abbrev pub reading : {Entry : Type 0} → Format Entry → List ℕ → Result (List Entry) ReadFault
reading format bytes = read_lines format [] (filled_lines bytes)

-- the fault is the one that reading meets, unless memory ran out
abbrev pub MeetsFault : {Entry : Type 0} → ℕ → Cause → Result (List Entry) ReadFault → Type 0
MeetsFault line cause read = IsUnlessMemory cause read (Err (record { line = line; cause = cause }))

-- what a reader answered, seen by view, is what reading line after line meets, unless memory ran out
abbrev pub GivesReading : {X Entry : Type 0} → (X → List Entry) → Result X ReadFault → Result (List Entry) ReadFault → Type 0
GivesReading view (Ok x) read = read ≡ Ok (view x)
GivesReading view (Err fault) read = MeetsFault fault.line fault.cause read

-- ---- that a file is one thing, or has one first fault, and never both

-- So are all files of a format, where this says what a file is.
pub record ReadsInOneWay {Entry X : Type 0} (format : Format Entry) (Is : List ℕ → X → Type 0) : Type 0 where
  pub either : (bytes : List ℕ) → ((x : X) × Is bytes x) ⊎ ((fault : ReadFault) × IsBad format bytes fault)
  pub not_both : (bytes : List ℕ) (x : X) (fault : ReadFault) → Is bytes x → IsBad format bytes fault → ⊥
  pub one : (bytes : List ℕ) (x other : X) → Is bytes x → Is bytes other → x ≡ other
  pub one_fault : (bytes : List ℕ) (fault other : ReadFault) → IsBad format bytes fault → IsBad format bytes other → fault ≡ other
