use Rattle.std.proofs.lemmas.List.{get_or_default}
use Rattle.ll_explain.specs.Lines.{next_text}
use Rattle.ll_explain.proofs.Appending.{appended_2}
use Rattle.ll_explain.proofs.LinesSaid.{said_next, said_last}
use Rattle.ll_explain.proofs.objections.push_lines.Goals as goal

pub loop-one-preserved : goal.loop-one-preserved
unfolding next_text
loop-one-preserved c =
    let all = c.args.all.now in
    let there = c.loop-one-test.true in
    said_next c.args.tree.now c.args.records.now c.loop-one.text _ _ c.loop-one.before all c.loop-one.one-index _
    there (get_or_default all c.loop-one.one-index _ _ there) c.loop-one.invariant
    (appended_2 c.loop-one.text _ _ _ _ c.push_opening.ensures c.push_objection.ensures)

pub returns : goal.returns
returns c =
    said_last c.args.tree.now c.args.records.now c.loop-one.text _ _ c.loop-one.before c.args.all.now c.loop-one.one-index
    c.loop-one-test.false c.loop-one.invariant c.push_ending.ensures
