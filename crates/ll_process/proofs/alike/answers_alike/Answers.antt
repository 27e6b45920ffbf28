-- Where all records are answered and change alike, the answers are those of the other case.
use Rattle.std.proofs.Common.{◌∙◌, List, Option, arith, ap, length, subst}
use Rattle.std.specs.Prelude.{IfSome}
use Rattle.std.proofs.lemmas.List.{take_all}
use Rattle.ll_semantics.specs.declared.answer.Answer.{Answer}
use Rattle.ll_semantics.specs.Worlds.{judged}
use Rattle.ll_process.specs.Alike.{StaysAlike}
use Rattle.ll_process.specs.Cases.{case_of}
use Rattle.ll_process.proofs.TwoKernels.{as_long, judged_all, met_first, read_answer, more_answers}
use Rattle.ll_process.proofs.alike.answers_alike.Goals as goal

pub loop-index-init : goal.loop-index-init
loop-index-init c = (met_first c.args.located.now.tree _ _ _ _, c.new-others.ensures.items)

pub answer_alike-requires-clause-within : goal.answer_alike-requires-clause-within
answer_alike-requires-clause-within c =
    omega (arith, c.loop-index-test.true, ap (λ (xs : List Answer). length xs) c.requires.answers, judged_all c.args.located.now c.args.one.now)

pub answer_alike-requires-clause-answer : goal.answer_alike-requires-clause-answer
answer_alike-requires-clause-answer c =
    read_answer c.args.located.now.tree c.args.one.now.kernel.abi (case_of c.args.located.now c.args.one.now).records c.args.answers.now
    c.loop-index.index c.index-answers-index.result c.requires.answers c.loop-index-test.true c.index-answers-index.is

pub loop-index-preserved : goal.loop-index-preserved
loop-index-preserved c =
    let case = case_of c.args.located.now c.args.one.now in
    let other = case_of c.args.located.now c.args.other.now in
    let stays : StaysAlike case other c.loop-index.index c.in-Some.given =
    subst (λ (o : Option Answer). IfSome o (StaysAlike case other c.loop-index.index)) c.in-Some.is c.answer_alike.ensures in
    let (given, meets) = stays c.loop-index.invariant.0 in (
      meets,
      c.in_ok-push.ensures.items ∙ more_answers c.args.located.now.tree c.args.other.now.kernel.abi other.records c.loop-index.index c.loop-index.others.items
          c.in-Some.given
          (omega (arith, c.loop-index-test.true, as_long c.args.located.now c.args.one.now c.args.other.now c.args.answers.now c.requires.answers))
          c.loop-index.invariant.1 given,
    )

pub returns : goal.returns
returns c =
    let other = case_of c.args.located.now c.args.other.now in
    c.loop-index.invariant.1
    ∙ take_all c.loop-index.index (judged c.args.located.now.tree c.args.other.now.kernel.abi other.records)
    (omega (arith, c.loop-index-test.false, as_long c.args.located.now c.args.one.now c.args.other.now c.args.answers.now c.requires.answers))
