use Rattle.std.proofs.Common.{◌∙◌, ap, ◌≤◌, ◌≡◌, length, arith}
use Rattle.std.specs.Vec.Iter.{into_iter_items}
use Rattle.ll_lines.specs.Lines.{filled_from}
use Rattle.ll_lines.proofs.BlockLemmas.{left_next, lines_next}
use Rattle.ll_lines.proofs.blocks.LineBlocks.into_blocks.Goals as goal
use Rattle.ll_lines.specs.LineByLine.{line_feeds}

pub loop-bytes-init : goal.loop-bytes-init
loop-bytes-init c = record {
  lines = rw (c.new-blocks.ensures.items, c.into_iter-bytes-iterator.ensures.into_iter_gives.0) (ap (filled_from 1) c.self.view_is);
  left = rw c.into_iter-bytes-iterator.ensures.into_iter_gives.0 (record { ends = c.self.invariant.0; room = omega (arith, c.self.invariant.1) });
}

pub loop-bytes-preserved : goal.loop-bytes-preserved
loop-bytes-preserved c =
    let rest = into_iter_items c.next.new.self in
    let last = c.self.inside.last.items in
    let counted : c.count_line_feeds-feeds.result ≡ line_feeds c.in-Some.bytes.items =
    c.count_line_feeds-feeds.ensures.count ∙ ap line_feeds c.deref.ensures.value in
    let few : c.count_line_feeds-feeds.result ≤ length c.in-Some.bytes.items = rw c.deref.ensures.value at c.count_line_feeds-feeds.ensures.few in
    record {
      lines = lines_next (λ block. block.items) c.loop-bytes.before c.count_line_feeds-feeds.result c.in-Some.bytes _ rest last c.loop-bytes.blocks.items _
          c.in-Some.ensures.steps.0 counted c.loop-bytes.invariant.left c.in_ok-push.ensures.items ∙ c.loop-bytes.invariant.lines;
      left = left_next (λ block. block.items) c.loop-bytes.before c.count_line_feeds-feeds.result c.in-Some.bytes _ rest last c.in-Some.ensures.steps.0 few
          c.loop-bytes.invariant.left;
    }
