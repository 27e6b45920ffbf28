-- Filters: which numbers are marked, and that all numbers with a rule are.
-- Source: docs/DECISIONS.md, the filter in front of the rules on nodes.
use Rattle.std.specs.Prelude.{◌≡◌, ℕ, ◌/◌, ◌%◌, Bool, false, List, ◌==◌, None, slice_index}
use Rattle.std.specs.Int.{bit_at}
use Rattle.std.specs.Ordering.{nat_cmp}
use Rattle.std.specs.Option.{option_map_or}
use Rattle.std.specs.FinMap.{FinMap, get}
use Rattle.ll_rights.specs.declared.fs.Fs.{Fs}
use Rattle.ll_rules.specs.declared.filter.Marks.{Marks}

-- whether a number is marked in 64 words of 64 bits
unfoldable pub is_marked : List ℕ → ℕ → Bool
is_marked words number = bit_at (slice_index words (number / 64 % 64)) (number % 64) == 1

-- whether a number has a mark; where there is no filter, none has
abbrev pub has_mark : Marks → ℕ → Bool
has_mark marks number = option_map_or (λ filter. is_marked filter.value.words number) marks.filter false

-- a number without a mark has no rule
abbrev pub AreMarked : Marks → FinMap nat_cmp Fs → Type 0
AreMarked marks rules = (number : ℕ) → has_mark marks number ≡ false → get rules number ≡ None
