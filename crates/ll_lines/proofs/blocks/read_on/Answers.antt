-- The block grows by what each read has given.
use Rattle.std.proofs.Common.{length, refl, rules, arith}
use Rattle.ll_lines.proofs.BlockLemmas.{read_again, read_more, read_none, read_page}
use Rattle.ll_lines.proofs.blocks.read_on.Goals.{in-Ok+in_ok-extend_from_slice-in-Ok+else-count-eq0+else-len-begun-ge-BLOCK, in-Err}
use Rattle.ll_lines.proofs.blocks.read_on.Goals as goal

pub returns-then-count-eq0-clause-more : goal.returns-then-count-eq0-clause-more
returns-then-count-eq0-clause-more g c =
    let given = c.in_ok-extend_from_slice-in-Ok.ensures.items in
    let page = read_page c.loop.page.len c.read.new.buf c.loop.page.items (grind arith) in
    let all = read_again _ _ _ _ _ c.extend_from_slice.new.self.items _ c.loop.invariant.more
    (rw (c.deref.ensures.value, page) at given) c.in-Ok.ensures.bytes.0 in
    let grew = read_more _ _ all.0 (length all.0) all.1 refl in
    (all.0, all.1, omega (arith, grew, c.len-then-count-eq0.ensures, c.len-begun.ensures), all.2)

pub loop-preserved : goal.loop-preserved
loop-preserved g c =
    let page = read_page c.loop.page.len c.read.new.buf c.loop.page.items (grind arith) in
    record {
      page = c.loop.invariant.page;
      more = elim c.match-read.branch [
        | in-Ok+in_ok-extend_from_slice-in-Ok+else-count-eq0+else-len-begun-ge-BLOCK w ↦
            read_again _ _ _ _ _ c.match-read.block.items _ c.loop.invariant.more
            (rw w.block-is (rw (w.deref.ensures.value, page) at w.in_ok-extend_from_slice-in-Ok.ensures.items)) w.in-Ok.ensures.bytes.0
        | in-Err w ↦ (c.loop.invariant.more.0, search rules, read_none _ _ _ _ c.loop.invariant.more.2 w.in-Err.ensures.bytes)
      ];
    }
