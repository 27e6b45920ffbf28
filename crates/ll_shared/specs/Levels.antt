-- The bits of keys by levels, two bits each, from the lowest on.
-- Source: none; the maps of this program alone.
use Rattle.std.specs.Prelude.{ℕ, Bool, ◌+◌, ◌*◌, ◌%◌, ◌^◌, ◌==◌}

-- two keys have the same bits in so many levels
abbrev pub agree : ℕ → ℕ → ℕ → Bool
agree levels a b = a % 4 ^ levels == b % 4 ^ levels

-- the key that has the bits of one in so many levels, these two above them, and the rest above those
abbrev pub whole : ℕ → ℕ → ℕ → ℕ → ℕ
whole levels low bits rest = (4 * rest + bits) * 4 ^ levels + low % 4 ^ levels
