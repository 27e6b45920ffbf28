-- What a buffer of fixed size holds when bytes are added to it.
-- Source: the code's own; it stands in no document.
use Rattle.std.specs.Prelude.{ℕ, ◌+◌, ◌^◌, ◌-◌, List, [], ◌∷◌, ◌++◌, fold, if◌then◌else◌, length, min, nat_lt, take}

-- A buffer has a window over the text that was added: it leaves out so many bytes of it, holds the next ones, for which
-- it has room, and counts all of them.
pub record Buffered : Type 0 where
  pub room : ℕ
  pub skip : ℕ
  pub count : ℕ
  pub held : List ℕ

-- the largest number that is counted
abbrev pub most_counted : ℕ
most_counted = 2 ^ 64 - 1

-- nothing was added yet, and so many bytes will be left out
abbrev pub from_byte : ℕ → ℕ → Buffered
from_byte skip room = record { room = room; skip = skip; count = 0; held = [] }

-- nothing was added yet, and none will be left out
abbrev pub blank : ℕ → Buffered
blank = from_byte 0

-- these bytes were added, and they are held
abbrev pub holding : ℕ → List ℕ → Buffered
holding room held = record { room = room; skip = 0; count = length held; held = held }

-- one more byte is counted, and held if it is not left out and there is room
unfoldable pub with_byte : Buffered → ℕ → Buffered
with_byte buffer byte = record {
  room = buffer.room;
  skip = buffer.skip;
  count = min (buffer.count + 1) most_counted;
  held = if nat_lt buffer.count buffer.skip then buffer.held else take buffer.room (buffer.held ++ byte ∷ []);
}

-- a text is added, byte after byte
unfoldable pub adding : Buffered → List ℕ → Buffered
adding buffer bytes = fold with_byte buffer bytes
