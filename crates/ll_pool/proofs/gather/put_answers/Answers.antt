-- What is left of the parts goes to its indices.
use Rattle.std.proofs.Common.{◌+◌, ◌∷◌, ℕ, List, drop, sym, ap, ◌∙◌}
use Rattle.std.proofs.lemmas.List.{length-set, drop_more, drop_all}
use Rattle.ll_semantics.specs.declared.answer.Answer.{Answer}
use Rattle.ll_pool.specs.Gathered.{put_all}
use Rattle.ll_pool.proofs.PuttingAnswers.{put_all-nil, put_all-cons}
use Rattle.ll_pool.proofs.gather.put_answers.Goals as goal

pub loop-part-preserved : goal.loop-part-preserved
loop-part-preserved c = record {
  len = length-set c.loop-part.answers.items c.part-item.result.0 c.part-item.result.1 ∙ c.loop-part.invariant.len;
  rest =
      sym (
      ap (λ (ps : List (ℕ × Answer)). put_all ps c.loop-part.answers.items)
      (drop_more c.args.parts.now c.loop-part.part-index c.part-item.result c.loop-part-test.true
      ∙ ap (λ (part : ℕ × Answer). part ∷ drop (c.loop-part.part-index + 1) c.args.parts.now) (sym c.part-item.is))
      ∙ put_all-cons c.part-item.result (drop (c.loop-part.part-index + 1) c.args.parts.now) c.loop-part.answers.items)
      ∙ c.loop-part.invariant.rest;
}

pub returns-clause-put : goal.returns-clause-put
returns-clause-put c =
    sym (put_all-nil c.loop-part.answers.items)
    ∙ ap (λ (ps : List (ℕ × Answer)). put_all ps c.loop-part.answers.items) (sym (drop_all c.loop-part.part-index c.args.parts.now c.loop-part-test.false))
    ∙ c.loop-part.invariant.rest
