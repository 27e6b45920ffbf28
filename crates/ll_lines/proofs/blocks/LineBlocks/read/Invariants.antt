-- What was read ends in whole blocks, and with what may still come it is as much as is taken at most. The bytes of the
-- blocks and those that the reader has left are all of its bytes.
use Rattle.std.proofs.Common.{◌≡◌, ◌++◌, ◌+◌, ◌<◌, All, flat_map, length}
use Rattle.std.specs.Io.KnownBytes.{Consumes}
use Rattle.ll_lines.specs.LineByLine.{EndsLine}
use Rattle.ll_lines.proofs.blocks.LineBlocks.read.Given as goal

abbrev pub invariant-loop-block : goal.invariant-loop-block
invariant-loop-block g l = record {
  page : 0 < l.page.len;
  lines : All (λ block. EndsLine block.items) l.whole.items;
  count : length (flat_map (λ block. block.items) l.whole.items ++ l.block.items) + l.left ≡ l.most;
  bytes : Consumes (g.I.Read.remaining l.initial.reader) (g.I.Read.remaining l.reader) (flat_map (λ block. block.items) l.whole.items ++ l.block.items);
}

abbrev pub decreases-loop-block : goal.decreases-loop-block
decreases-loop-block g l = l.left
