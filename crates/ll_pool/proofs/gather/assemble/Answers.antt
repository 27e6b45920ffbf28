-- Each piece's answers go to their indices.
use Rattle.std.proofs.Common.{◌≡◌, ◌<◌, ℕ, List, [], length, sym, ap, ◌∙◌, subst, arith, rules}
use Rattle.std.specs.Prelude.{All, vec_len}
use Rattle.std.specs.Vec.Iter.{into_iter_items}
use Rattle.std.proofs.lemmas.List.{nil_from_length}
use Rattle.std.proofs.lemmas.List.Elements.{All-head, All-tail}
use Rattle.ll_trace.specs.declared.op.Record.{Record}
use Rattle.ll_semantics.specs.declared.answer.Answer.{Answer}
use Rattle.ll_process.specs.declared.piece.Piece.{Piece}
use Rattle.ll_pool.proofs.PuttingAnswers.{put_pieces-nil, put_pieces-cons}
use Rattle.ll_pool.proofs.Answering.{all_indices, all_answered}
use Rattle.ll_pool.proofs.gather.assemble.Goals as goal

pub loop-piece-init : goal.loop-piece-init
loop-piece-init c =
    let len : length c.in_ok-answers.answers.items ≡ length c.args.case.now.records =
    (let h = c.in_ok-answers.ensures.len in omega (arith, h, c.count.ensures.count, ap (λ (rs : List Record). length rs) c.trace.ensures.records)) in
    record { len = len; same = len; of_case = search rules; left = search rules }

pub put_answers-requires : goal.put_answers-requires
put_answers-requires c =
    let of_case = rw c.in-Some.ensures.steps.0 at c.loop-piece.invariant.of_case in
    subst (λ (ps : List (ℕ × Answer)). All (λ (part : ℕ × Answer). part.0 < vec_len c.loop-piece.answers) ps) (sym c.answers.ensures)
    (all_indices c.args.case.now c.in-Some.piece (vec_len c.loop-piece.answers) (All-head (λ (x : Piece). x.case.now ≡ c.args.case.now) _ _ of_case)
    (omega (arith, c.loop-piece.invariant.len)))

pub loop-piece-preserved : goal.loop-piece-preserved
loop-piece-preserved c =
    let of_case = rw c.in-Some.ensures.steps.0 at c.loop-piece.invariant.of_case in
    let left = rw c.in-Some.ensures.steps.0 at c.loop-piece.invariant.left in
    record {
      len = c.put_answers.ensures.len ∙ c.loop-piece.invariant.len;
      same = c.loop-piece.invariant.same;
      of_case = All-tail (λ (x : Piece). x.case.now ≡ c.args.case.now) _ _ of_case;
      left = rw (c.put_answers.ensures.put, c.answers.ensures) (sym (put_pieces-cons c.in-Some.piece _ c.loop-piece.answers.items) ∙ left);
    }

pub returns : goal.returns
returns c =
    let none : into_iter_items c.loop-piece.piece-iterator ≡ [] =
    nil_from_length _ (omega (arith, c.loop-piece.piece-iterator.rest.ok, c.in-None.ensures.steps.0)) in
    all_answered c.args.case.now c.args.pieces.items c.in_ok-answers.answers.items c.loop-piece.answers.items c.trace.ensures.case c.requires.of_case
    (λ q within. omega (arith, c.requires.each_once q within)) c.loop-piece.invariant.same
    (sym (put_pieces-nil _ c.loop-piece.answers.items none) ∙ c.loop-piece.invariant.left)
