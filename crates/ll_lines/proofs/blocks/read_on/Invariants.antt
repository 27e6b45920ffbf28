-- What the block has more is what the reader has given.
use Rattle.std.proofs.Common.{◌≡◌, ◌++◌, List, ℕ}
use Rattle.std.specs.Io.KnownBytes.{Consumes}
use Rattle.ll_lines.proofs.blocks.read_on.Given as goal

abbrev pub invariant-loop : goal.invariant-loop
invariant-loop g l = record {
  page : l.page.len ≡ l.initial.page.len;
  more : (more : List ℕ) × (l.block.items ≡ l.initial.block.items ++ more) × Consumes (g.I.Read.remaining l.initial.reader) (g.I.Read.remaining l.reader) more;
}
