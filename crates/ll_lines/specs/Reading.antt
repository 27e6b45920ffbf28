-- The reading of a file that has one entry on a line: its entries if no line has a fault, else the first faulty line.
-- Source: docs/FORMATS.md, "What does not read".
use Rattle.std.specs.Prelude.{◌≡◌, ℕ, List, ◌∷◌, ◌++◌, Option, Some, None, Result, Ok, Err}
use Rattle.std.specs.List.{filter_map}
use Rattle.std.specs.Result.{result_ok}
use Rattle.ll_lines.specs.declared.fault.Cause.{Cause}
use Rattle.ll_lines.specs.declared.fault.ReadFault.{ReadFault}
use Rattle.ll_lines.specs.Lines.{Line, filled_lines}

-- A format says what the entry of a line is, or the first fault of that line alone, and what the first fault of an entry is after the entries of the lines before it.
pub record Format (Entry : Type 0) : Type 0 where
  pub entry_of_line : Line → Result Entry Cause
  pub fault_after : List Entry → Entry → Option Cause

-- the entries of the lines that have one
abbrev pub entries_of : {Entry : Type 0} → Format Entry → List Line → List Entry
entries_of format lines = filter_map (λ line. result_ok (format.entry_of_line line)) lines

-- a line's own fault, or else the one that its entry has
abbrev pub first_fault : {Entry : Type 0} → Result Entry Cause → (Entry → Option Cause) → Option Cause
first_fault (Err cause) later = Some cause
first_fault (Ok entry) later = later entry

-- the first fault of a line after the lines before it
abbrev pub fault_of : {Entry : Type 0} → Format Entry → List Line → Line → Option Cause
fault_of format before line = first_fault (format.entry_of_line line) (format.fault_after (entries_of format before))

-- no line has a fault
abbrev pub IsFaultless : {Entry : Type 0} → Format Entry → List Line → Type 0
IsFaultless format lines = (before after : List Line) (line : Line) → lines ≡ before ++ line ∷ after → fault_of format before line ≡ None

-- the file reads, as these entries
pub record IsGood {Entry : Type 0} (format : Format Entry) (bytes : List ℕ) (entries : List Entry) : Type 0 where
  pub faultless : IsFaultless format (filled_lines bytes)
  pub all : entries ≡ entries_of format (filled_lines bytes)

-- the file does not read: this is its first faulty line, with its first cause
pub record IsBad {Entry : Type 0} (format : Format Entry) (bytes : List ℕ) (fault : ReadFault) : Type 0 where
  pub before : List Line
  pub line : Line
  pub after : List Line
  pub cut : filled_lines bytes ≡ before ++ line ∷ after
  pub earlier : IsFaultless format before
  pub number : line.number ≡ fault.line
  pub cause : fault_of format before line ≡ Some fault.cause
