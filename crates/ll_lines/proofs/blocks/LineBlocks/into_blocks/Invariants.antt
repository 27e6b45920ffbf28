-- The lines of the blocks so far, and then of the bytes that are left, are those of the file.
use Rattle.std.proofs.Common.{◌≡◌, ◌++◌, ◌+◌, flat_map}
use Rattle.std.specs.Vec.Iter.{into_iter_items}
use Rattle.ll_lines.specs.Lines.{filled_from, filled_lines}
use Rattle.ll_lines.proofs.BlockLemmas.{Left}
use Rattle.ll_lines.proofs.blocks.LineBlocks.into_blocks.Given as goal

abbrev pub invariant-loop-bytes : goal.invariant-loop-bytes
invariant-loop-bytes l = record {
  lines : flat_map (λ block. block) l.blocks.items
      ++ filled_from (l.before + 1) (flat_map (λ block. block.items) (into_iter_items l.bytes-iterator) ++ l.last.items)
      ≡ filled_lines l.fn.self;
  left : Left (λ block. block.items) l.before (into_iter_items l.bytes-iterator) l.last.items;
}
