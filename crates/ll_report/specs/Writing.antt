-- Writing a report through a page of fixed size, which is written out when the next text doesn't fit, and what a writer
-- holds when not all bytes could be written.
-- Source: docs/FORMATS.md, "The report" and "Statuses"; write(2); the page is the code's own.
use Rattle.std.specs.Prelude.{◌≡◌, ◌+◌, ◌^◌, ◌<◌, ◌≤◌, ℕ, Bool, List, ◌++◌, Option, drop, length, take}
use Rattle.std.specs.Bool.{OnFalse, OnTrue}
use Rattle.std.specs.Io.KnownBytes.{Appends}
use Rattle.ll_explain.specs.Buffers.{Buffered, holding}

-- a page holds all that was added to it since it was written out
pub record IsPage (page : Buffered) : Type 0 where
  pub all : page ≡ holding page.room page.held
  pub room : 0 < page.room
  pub fits : length page.held ≤ page.room

-- a page holds a part without its first bytes, as much as there is room for; the last says whether that is all
pub record HoldsRest (part : List ℕ) (skip room : ℕ) (page : Buffered) (whole : Bool) : Type 0 where
  pub same : page.room ≡ room
  pub held : page.held ≡ take room (drop skip part)
  pub all : OnTrue whole (length part ≤ skip + room)
  pub more : OnFalse whole (skip + room < 2 ^ 64 → skip + room ≤ length part)

-- what was held is sent, or still held
abbrev pub Sends : Option (List ℕ) → Option (List ℕ) → List ℕ → List ℕ → Type 0
Sends old new held_before held_after = (sent : List ℕ) × Appends old new sent × (held_before ≡ sent ++ held_after)

-- known bytes grow by a beginning of these bytes, which may be none or all of them
abbrev pub AppendsBeginning : Option (List ℕ) → Option (List ℕ) → List ℕ → Type 0
AppendsBeginning old new bytes = (count : ℕ) × Appends old new (take count bytes)

-- known bytes grow by a beginning of these bytes that isn't all of them
abbrev pub AppendsPart : Option (List ℕ) → Option (List ℕ) → List ℕ → Type 0
AppendsPart old new bytes = (count : ℕ) × (count < length bytes) × Appends old new (take count bytes)
