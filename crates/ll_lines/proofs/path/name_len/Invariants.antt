use Rattle.std.proofs.Common.{◌≡◌, ◌≤◌, ◌<◌, ◌-◌, ℕ, length, true}
use Rattle.std.specs.Prelude.{slice_index}
use Rattle.ll_lines.specs.Paths.{is_name_byte}
use Rattle.ll_lines.proofs.path.name_len.Given as goal

-- the bytes so far may stand in a name
abbrev pub invariant-loop-len : goal.invariant-loop-len
invariant-loop-len l = (l.len ≤ length l.bytes) × ((k : ℕ) → k < l.len → is_name_byte (slice_index l.bytes k) ≡ true)

abbrev pub decreases-loop-len : goal.decreases-loop-len
decreases-loop-len l = length l.bytes - l.len
