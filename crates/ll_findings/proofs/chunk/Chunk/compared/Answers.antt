use Rattle.std.proofs.Common.{ℕ, arith, refl, subst}
use Rattle.ll_findings.specs.Chunks.{Covers}
use Rattle.ll_findings.specs.Kept.{kept_of}
use Rattle.ll_findings.proofs.Covering.{covers_more, covers_none}
use Rattle.ll_findings.proofs.chunk.Chunk.compared.Goals as goal

pub loop-index-init : goal.loop-index-init
loop-index-init c = record {
  covers = covers_none c.args.self.case.now c.args.base.now c.args.self.from c.none-changes.result c.none-changes.ensures;
  trails = c.args.self.begins;
}

pub loop-index-preserved : goal.loop-index-preserved
loop-index-preserved c = record {
  covers = covers_more c.args.self.case.now c.args.base.now c.args.self.from c.loop-index.index c.loop-index.changes c.note.new.self
      c.answer_at-answer.result c.answer_at-answer-in-loop-index.result (kept_of c.in_ok-explanation.explanation) c.loop-index.invariant.covers
      c.answer_at-answer.ensures.answer c.answer_at-answer-in-loop-index.ensures.answer
      (λ r read. (c.in_ok-explanation.explanation, refl, c.in_ok-explanation.ensures r read)) c.in_ok-note.ensures;
  trails = c.in_ok-follow.ensures;
}

pub returns : goal.returns
returns c =
    subst (λ (n : ℕ). Covers c.args.self.case.now c.args.base.now c.args.self.from n c.loop-index.changes)
    (omega (arith, c.loop-index-test.false, c.loop-index.auto.index, c.args.self.rises)) c.loop-index.invariant.covers
