use Rattle.std.proofs.Common.{◌≡◌, ◌≤◌, ◌+◌, ◌++◌, length, flat_map}
use Rattle.ll_lines.proofs.lines.FilledLines.in_parts.Given as goal

abbrev pub invariant-loop : goal.invariant-loop
invariant-loop l = record {
  lines : flat_map (λ part. part) l.parts.items ++ l.left ≡ l.fn.self;
  few : length l.parts.items + 1 ≤ l.counter;
}
