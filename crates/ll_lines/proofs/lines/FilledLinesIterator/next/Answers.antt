use Rattle.std.proofs.Common.{◌≡◌, ◌+◌, [], sym, ◌∙◌, rules}
use Rattle.std.proofs.lemmas.Bool.{eqb-true}
use Rattle.ll_lines.specs.Lines.{filled_from}
use Rattle.ll_lines.proofs.LinesLemmas.{filled_from-empty}
use Rattle.ll_lines.proofs.lines.FilledLinesIterator.next.Goals as goal

pub returns-clause-steps : goal.returns-clause-steps
returns-clause-steps c =
    let none : filled_from (c.loop-self.self-inside.number + 1) c.loop-self.self-inside.rest.now ≡ [] =
    filled_from-empty _ _ (eqb-true _ 0 (sym c.loop-self-test.ensures)) in
    (sym c.loop-self.invariant.1 ∙ none, none)

pub loop-self-preserved : goal.loop-self-preserved
loop-self-preserved c = search rules
