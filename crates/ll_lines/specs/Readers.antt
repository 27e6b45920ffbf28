-- What a reader answers, beside what it read: the value that is there, or the first cause of a fault.
-- Source: docs/FORMATS.md, "What does not read".
use Rattle.std.specs.Prelude.{◌≡◌, Result, Ok, Err}
use Rattle.ll_lines.specs.declared.fault.Cause.{Cause}
use Rattle.ll_lines.specs.declared.fault.Cause.TheVariants.{Memory}

-- what was read is this, unless memory ran out, which says nothing of it
abbrev pub IsUnlessMemory : {X : Type 0} → Cause → X → X → Type 0
IsUnlessMemory Memory read this = Unit {0}
IsUnlessMemory cause read this = read ≡ this

-- the cause is the one that is there, unless memory ran out
abbrev pub Fails : {Y : Type 0} → Cause → Result Y Cause → Type 0
Fails cause read = IsUnlessMemory cause read (Err cause)

-- what a reader that takes no memory answered, seen by view, is what is read
abbrev pub Reads : {X Y : Type 0} → (X → Y) → Result X Cause → Result Y Cause → Type 0
Reads view (Ok x) read = read ≡ Ok (view x)
Reads view (Err cause) read = read ≡ Err cause

-- what a reader that takes memory answered, seen by view, is what is read, unless memory ran out
abbrev pub Gives : {X Y : Type 0} → (X → Y) → Result X Cause → Result Y Cause → Type 0
Gives view (Ok x) read = read ≡ Ok (view x)
Gives view (Err cause) read = Fails cause read
