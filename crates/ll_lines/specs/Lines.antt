-- The lines of a file: it is cut at each line feed, and nothing after the last one is no line.
-- Source: docs/FORMATS.md, "Lines".
use Rattle.std.specs.Prelude.{ℕ, ◌+◌, ◌==◌, ◌||◌, Bool, not, List, [], ◌∷◌, filter, if◌then◌else◌}
use Rattle.std.specs.List.{list_all}

-- a line with its number, of which the first is 1
pub record Line : Type 0 where
  pub number : ℕ
  pub bytes : List ℕ

-- the lines, with a byte in front of the first
abbrev pub with_first : ℕ → List (List ℕ) → List (List ℕ)
with_first byte [] = (byte ∷ []) ∷ []
with_first byte (line ∷ others) = (byte ∷ line) ∷ others

-- the lines of a file, each without its line feed
unfoldable pub lines : List ℕ → List (List ℕ)
lines [] = []
lines (byte ∷ bytes) = if byte == 10 then [] ∷ lines bytes else with_first byte (lines bytes)

-- a space, a tab or a carriage return
abbrev pub is_space : ℕ → Bool
is_space byte = byte == 32 || byte == 9 || byte == 13

abbrev pub is_blank : List ℕ → Bool
is_blank line = list_all is_space line

-- each line with its number, from this one on
abbrev pub numbered_from : ℕ → List (List ℕ) → List Line
numbered_from n [] = []
numbered_from n (line ∷ others) = record { number = n; bytes = line } ∷ numbered_from (n + 1) others

-- the lines that are not blank; blank ones are counted all the same
abbrev pub filled_from : ℕ → List ℕ → List Line
filled_from n bytes = filter (λ line. not (is_blank line.bytes)) (numbered_from n (lines bytes))

abbrev pub filled_lines : List ℕ → List Line
filled_lines bytes = filled_from 1 bytes
