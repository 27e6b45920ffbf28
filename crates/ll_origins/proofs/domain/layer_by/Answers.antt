use Rattle.std.proofs.Common.{◌∙◌, ◌<◌, ◌≤◌, Some, ap, arith, length}
use Rattle.ll_semantics.specs.declared.answer.RulesetOutcome.TheVariants.{Answered, Frozen, ByState}
use Rattle.ll_origins.proofs.Frozen.{layer_in, noted_at, none_past}
use Rattle.ll_origins.proofs.domain.layer_by.Goals as goal

-- src/domain.rt:25:9
pub returns-then-index-count : goal.returns-then-index-count
returns-then-index-count c = λ process.
    let cv = c.args.case.now in
    let past : length cv.records ≤ c.args.index = omega (arith, c.count.ensures, c.if-index-count.true) in
    none_past cv c.args.index process past

-- src/domain.rt:19:1
pub returns-in-Frozen : goal.returns-in-Frozen
unfolding layer_in
returns-in-Frozen c = λ process.
    let cv = c.args.case.now in
    let within : c.args.index < length cv.records = omega (arith, c.count.ensures, c.if-index-count.false) in
    noted_at cv c.args.index process (Frozen c.in-Frozen.id) c.outcome.ensures.case within (c.outcome.ensures.outcome ∙ ap Some c.in-Frozen.is)

-- src/domain.rt:19:1
pub returns-in-Answered : goal.returns-in-Answered
unfolding layer_in
returns-in-Answered c = λ process.
    let cv = c.args.case.now in
    let within : c.args.index < length cv.records = omega (arith, c.count.ensures, c.if-index-count.false) in
    noted_at cv c.args.index process (Answered c.in-Answered.field-0) c.outcome.ensures.case within (c.outcome.ensures.outcome ∙ ap Some c.in-Answered.is)

-- src/domain.rt:19:1
pub returns-in-ByState : goal.returns-in-ByState
unfolding layer_in
returns-in-ByState c = λ process.
    let cv = c.args.case.now in
    let within : c.args.index < length cv.records = omega (arith, c.count.ensures, c.if-index-count.false) in
    noted_at cv c.args.index process ByState c.outcome.ensures.case within (c.outcome.ensures.outcome ∙ ap Some c.in-ByState.is)
