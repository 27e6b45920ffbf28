-- The record is answered and changes alike in both cases.
use Rattle.std.proofs.Common.{◌∙◌, Option, ap, subst, sym}
use Rattle.std.specs.Prelude.{unwrap_or}
use Rattle.ll_semantics.specs.declared.answer.Answer.{Answer}
use Rattle.ll_semantics.specs.declared.answer.Answer.TheVariants.{Moot}
use Rattle.ll_process.specs.Alike.{StaysAlike}
use Rattle.ll_process.specs.Cases.{case_of}
use Rattle.ll_process.proofs.TwoKernels.{none_by, other_by, outcome_read, same_read, some_by, stays_allowed, stays_by_processes, stays_kept}
use Rattle.ll_process.proofs.alike.answer_alike.Goals as goal
use Rattle.ll_process.proofs.alike.answer_alike.Goals.{else-is_none-via-then-is_none+else-is_none-2, else-is_none-via-else-is_none}

pub returns-then-is_none-2 : goal.returns-then-is_none-2
returns-then-is_none-2 c =
    stays_by_processes c.args.located.now c.args.one.now c.args.other.now c.args.index c.requires.one c.requires.other
    c.index.result.now c.index-2.result.now c.requires.within
    (outcome_read c.args.located.now c.args.one.now c.args.index c.index.result.now c.requires.one c.requires.within c.index.ensures)
    (outcome_read c.args.located.now c.args.other.now c.args.index c.index-2.result.now c.requires.other c.requires.within c.index-2.ensures)
    c.args.answer
    (sym c.answer_told-told.ensures ∙ none_by c.answer_told-told.result c.is_none.result c.is_none.ensures c.if-is_none.true)
    (sym c.answer_told-told_there.ensures
    ∙ none_by c.answer_told-told_there.result c.is_none-then-is_none.result c.is_none-then-is_none.ensures c.if-is_none-2.true)
    c.requires.answer

pub returns-then-not-is_allowed-2 : goal.returns-then-not-is_allowed-2
returns-then-not-is_allowed-2 c =
    let one = case_of c.args.located.now c.args.one.now in
    let other = case_of c.args.located.now c.args.other.now in
    subst (λ (given : Answer). StaysAlike one other c.args.index given)
    (sym (c.unwrap_or.ensures ∙ ap (λ (o : Option Answer). unwrap_or o Moot) c.answer_told-told_there.ensures))
    (stays_kept c.args.located.now c.args.one.now c.args.other.now c.args.index c.requires.one c.requires.other
    c.index.result.now c.index-2.result.now c.requires.within
    (outcome_read c.args.located.now c.args.one.now c.args.index c.index.result.now c.requires.one c.requires.within c.index.ensures)
    (outcome_read c.args.located.now c.args.other.now c.args.index c.index-2.result.now c.requires.other c.requires.within c.index-2.ensures)
    (λ is. other_by c.answer_told-told.result c.is_allowed.result c.is_allowed.ensures.1 c.if-not-is_allowed.true (c.answer_told-told.ensures ∙ is))
    (λ is. other_by c.answer_told-told_there.result c.is_allowed-then-not-is_allowed.result c.is_allowed-then-not-is_allowed.ensures.1
    c.if-not-is_allowed-2.true (c.answer_told-told_there.ensures ∙ is))
    (λ none none_too. elim c.else-is_none.branch [
      | else-is_none-via-then-is_none+else-is_none-2 w ↦
          some_by c.answer_told-told_there.result w.is_none-then-is_none.result w.is_none-then-is_none.ensures w.if-is_none-2.false
          (c.answer_told-told_there.ensures ∙ none_too)
      | else-is_none-via-else-is_none w ↦
          some_by c.answer_told-told.result c.is_none.result c.is_none.ensures w.if-is_none.false (c.answer_told-told.ensures ∙ none)
    ]))

pub returns-then-is_taken_alike : goal.returns-then-is_taken_alike
returns-then-is_taken_alike c =
    stays_allowed c.args.located.now c.args.one.now c.args.other.now c.args.index c.requires.one c.requires.other
    c.index.result.now c.index-2.result.now c.requires.within
    (outcome_read c.args.located.now c.args.one.now c.args.index c.index.result.now c.requires.one c.requires.within c.index.ensures)
    (outcome_read c.args.located.now c.args.other.now c.args.index c.index-2.result.now c.requires.other c.requires.within c.index-2.ensures)
    (sym c.answer_told-told.ensures ∙ c.is_allowed-2.ensures.0 c.if-is_allowed.true)
    (sym c.answer_told-told_there.ensures ∙ c.is_allowed-then-is_allowed.ensures.0 c.if-is_allowed-2.true)
    (same_read c.args.located.now.trace c.records.result.now c.args.index c.index-records-index.result c.args.one.now.kernel c.args.other.now.kernel
    c.records.ensures.value c.requires.within c.index-records-index.is (c.is_taken_alike.ensures c.if-is_taken_alike.true))
