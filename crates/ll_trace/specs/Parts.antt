-- What a part of the lines of a trace file reads as, before its entries have their places.
-- Source: docs/FORMATS.md, "What does not read".
use Rattle.std.specs.Prelude.{◌≡◌, List, [], ◌∷◌, Option, Some, None, Ok}
use Rattle.ll_lines.specs.declared.fault.ReadFault.{ReadFault}
use Rattle.ll_lines.specs.Lines.{Line}
use Rattle.ll_lines.specs.Readers.{Fails}
use Rattle.ll_trace.specs.declared.parts.PartRead.{PartRead}
use Rattle.ll_trace.specs.declared.reader.Entry as declared
use Rattle.ll_trace.specs.Entries.{entry_at}
use Rattle.ll_trace.specs.Kept.{entry_view}

-- the line reads as this entry
pub record Says (line : Line) (entry : declared.Entry) : Type 0 where
  pub reads : entry_at line ≡ Ok (entry_view entry)
  pub number : entry.line ≡ line.number

-- the first lines read as these entries, one by one, and the rest is left
abbrev pub Covers : List Line → List declared.Entry → List Line → Type 0
Covers lines [] rest = lines ≡ rest
Covers [] (entry ∷ entries) rest = ⊥
Covers (line ∷ lines) (entry ∷ entries) rest = Says line entry × Covers lines entries rest

-- no line is left, or the first of them has this fault
abbrev pub EndsAt : List Line → Option ReadFault → Type 0
EndsAt rest None = rest ≡ []
EndsAt [] (Some fault) = ⊥
EndsAt (line ∷ others) (Some fault) = (line.number ≡ fault.line) × Fails fault.cause (entry_at line)

-- the lines read as entries up to the first that has none
pub record IsRead (lines : List Line) (entries : List declared.Entry) (fault : Option ReadFault) : Type 0 where
  pub rest : List Line
  pub covers : Covers lines entries rest
  pub ends : EndsAt rest fault

abbrev pub IsReadOf : List Line → PartRead → Type 0
IsReadOf lines part = IsRead lines part.entries.items part.fault
