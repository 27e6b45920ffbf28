-- A block that ends in a line feed is kept, and the next one begins with what is behind it.
use Rattle.std.proofs.Common.{◌≡◌, ◌++◌, rules, arith}
use Rattle.ll_lines.proofs.BlockLemmas.{consumed_cut, consumed_more, count_more, ends_more, read_more}
use Rattle.ll_lines.proofs.blocks.LineBlocks.read.Goals as goal

pub loop-block-preserved-in-Continue-branch-6 : goal.loop-block-preserved-in-Continue-branch-6
loop-block-preserved-in-Continue-branch-6 g c =
    let cut = rw c.in-Some.is at c.in_ok-next.ensures.cut in
    let read : c.read_on.new.block.items ≡ c.replace.result.items ++ c.replace.new.dest.items =
    rw (c.replace.ensures.value, c.replace.ensures.after) cut.1 in
    let got = c.in_ok-count.ensures.more in
    record {
      page = search rules;
      lines = ends_more (λ block. block.items) c.loop-block.whole.items _ c.replace.result c.in_ok-push.ensures.items (rw (c.replace.ensures.value) cut.0)
          c.loop-block.invariant.lines;
      count = count_more (λ block. block.items) c.loop-block.whole.items _ c.replace.result c.loop-block.block.items c.read_on.new.block.items _
          c.in_ok-count.count c.loop-block.left c.args.most c.in_ok-push.ensures.items read
          (read_more _ _ _ _ got.1 got.2) (omega (arith, c.if-count-left.false)) c.loop-block.invariant.count;
      bytes = consumed_cut (λ block. block.items) _ _ c.loop-block.whole.items _ c.replace.result c.read_on.new.block.items _ c.in_ok-push.ensures.items read
          (consumed_more _ _ _ _ _ _ _ c.loop-block.invariant.bytes got.1 got.3);
    }
