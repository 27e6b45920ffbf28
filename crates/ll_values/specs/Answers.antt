-- Answers to the lines of a file, of which each that isn't blank asks for one.
-- Source: landaudit-rules(1).
use Rattle.std.specs.Prelude.{◌≡◌, ℕ, List, None, Result}
use Rattle.ll_lines.specs.declared.fault.Cause.{Cause}
use Rattle.ll_lines.specs.declared.fault.ReadFault.{ReadFault}
use Rattle.ll_lines.specs.Reading.{Format, IsBad}

-- a line at fault asks for nothing, whatever the lines before it are
abbrev pub by_line : {Entry : Type 0} → (List ℕ → Result Entry Cause) → Format Entry
by_line read = record { entry_of_line = λ line. read line.bytes; fault_after = λ earlier entry. None }

-- with status 3 some line has a fault, and nothing is written
pub record IsRefused {Entry Output : Type 0} (format : Format Entry) (bytes : List ℕ) (old new : Output) : Type 0 where
  pub fault : ReadFault
  pub is_bad : IsBad format bytes fault
  pub unwritten : new ≡ old
