use Rattle.std.proofs.Common.{◌∙◌, ℕ, List, Some, refl, sym, ap}
use Rattle.ll_semantics.specs.declared.answer.Answer.{Answer}
use Rattle.ll_semantics.specs.declared.answer.Answer.TheVariants.{Refused}
use Rattle.ll_reasons.specs.Explanations.{explained, explained_at}
use Rattle.ll_explanations.specs.Meanings.{explanation_in}
use Rattle.ll_explanations.proofs.Explaining.{none_of}
use Rattle.ll_explanations.proofs.explanation.explain.Goals as goal

pub returns-in-Allowed : goal.returns-in-Allowed
unfolding explained_at explained explanation_in
returns-in-Allowed c r eq = rw c.in-Allowed.is (record { means = refl; made = tt; inside = tt })

pub failed-requires-clause-answer : goal.failed-requires-clause-answer
failed-requires-clause-answer c =
    c.requires.answer ∙ ap (λ (answer : Answer). Some answer) c.in-Refused.is
    ∙ ap (λ (numbers : List ℕ). Some (Refused c.in-Refused.error numbers)) (none_of c.in-Refused.numbers (sym c.is_empty.ensures.empty ∙ c.if-is_empty.true))

pub returns-in-Moot : goal.returns-in-Moot
returns-in-Moot c = rw c.in-Moot.is c.moot.ensures

pub returns-then-is_empty : goal.returns-then-is_empty
returns-then-is_empty c =
    rw (c.in-Refused.is, none_of c.in-Refused.numbers (sym c.is_empty.ensures.empty ∙ c.if-is_empty.true)) c.failed.ensures
