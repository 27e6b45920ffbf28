-- The answer is that of the one fold, since all answers are.
use Rattle.std.proofs.Common.{◌≡◌, ◌∙◌, ◌<◌, ℕ, List, length, get_or, Some, sym, ap, subst}
use Rattle.std.specs.Prelude.{slice_get}
use Rattle.std.proofs.lemmas.Option.{slice_get-get_or}
use Rattle.ll_semantics.specs.declared.answer.Answer.{Answer}
use Rattle.ll_semantics.specs.Worlds.{judged}
use Rattle.ll_semantics.proofs.Steps.{length-judged}
use Rattle.ll_process.specs.Cases.{CaseValue}
use Rattle.ll_findings.proofs.chunks.answer_at.Goals as goal

-- an index among the answers is one among the records
among : (cv : CaseValue) (answers : List Answer) (index : ℕ) → answers ≡ judged cv.tree cv.abi cv.records → index < length answers
    → index < length cv.records
among cv answers index are below = subst (λ n. index < n) (ap length are ∙ length-judged cv.tree cv.abi cv.records) below

given_at : (cv : CaseValue) (answers : List Answer) (index : ℕ) (answer : Answer) → answers ≡ judged cv.tree cv.abi cv.records → index < length answers
    → answer ≡ get_or answers index answer → slice_get (judged cv.tree cv.abi cv.records) index ≡ Some answer
given_at cv answers index answer are below is =
    ap (λ given. slice_get given index) (sym are) ∙ slice_get-get_or answers index answer below ∙ ap Some (sym is)

pub returns-clause-answer : goal.returns-clause-answer
returns-clause-answer c =
    given_at c.args.case.now c.args.answers.now c.args.index c.index-answers-index.result c.requires.judged c.requires.within c.index-answers-index.is

pub returns-clause-index : goal.returns-clause-index
returns-clause-index c = among c.args.case.now c.args.answers.now c.args.index c.requires.judged c.requires.within
