use Rattle.std.proofs.Common.{◌∙◌, ◌++◌, ◌∷◌, [], ap, refl, subst, sym}
use Rattle.ll_findings.specs.Chunks.{AreChunks}
use Rattle.ll_findings.proofs.Chunking.{one_chunk_more}
use Rattle.ll_findings.proofs.chunks.cut_all.Goals as goal

pub loop-preserved : goal.loop-preserved
loop-preserved c =
    let first = c.in_ok-first.first in
    let rest = c.loop.rest in
    let pushed = c.push_reserved.ensures.items ∙ ap (λ all. all ++ first ∷ []) c.in_ok-reserve.ensures.items in
    let are = one_chunk_more c.args.whole.case.now c.args.whole.from rest.from c.loop.chunks.items first c.loop.invariant.are
    (c.in_ok-first.ensures.cases.0 ∙ c.loop.invariant.case) c.in_ok-first.ensures.from in
    record {
      are = subst (AreChunks c.args.whole.case.now c.args.whole.from c.in_ok-first.others.from) (sym pushed)
          (subst (λ n. AreChunks c.args.whole.case.now c.args.whole.from n (c.loop.chunks.items ++ first ∷ [])) (sym c.in_ok-first.ensures.middle) are);
      case = c.in_ok-first.ensures.cases.1 ∙ c.loop.invariant.case;
      end = c.in_ok-first.ensures.end ∙ c.loop.invariant.end;
    }

pub returns : goal.returns
returns c =
    let rest = c.loop.rest in
    let pushed = c.push_reserved-2.ensures.items ∙ ap (λ all. all ++ rest ∷ []) c.in_ok-reserve-2.ensures.items in
    let are = one_chunk_more c.args.whole.case.now c.args.whole.from rest.from c.loop.chunks.items rest c.loop.invariant.are c.loop.invariant.case refl in
    subst (AreChunks c.args.whole.case.now c.args.whole.from c.args.whole.end) (sym pushed)
    (subst (λ n. AreChunks c.args.whole.case.now c.args.whole.from n (c.loop.chunks.items ++ rest ∷ [])) c.loop.invariant.end are)
