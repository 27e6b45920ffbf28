-- The line feeds of the lanes and those behind them are those that were left.
use Rattle.std.proofs.Common.{cond, eqb, length, ap, ◌∙◌, arith, rules}
use Rattle.std.proofs.lemmas.List.{length-take-le}
use Rattle.std.proofs.lemmas.List.Sums.{sum_by-take-drop}
use Rattle.ll_lines.specs.LineByLine.{line_feeds}
use Rattle.ll_lines.proofs.lines.count_line_feeds.Goals as goal

pub count_in_lanes-requires : goal.count_in_lanes-requires
count_in_lanes-requires c =
    let cases = c.in-Some.ensures.cases in
    ap length cases.0 ∙ length-take-le 32 c.loop-lanes.rest.now (omega (arith, cases.2))

pub loop-lanes-preserved : goal.loop-lanes-preserved
loop-lanes-preserved c =
    let cases = c.in-Some.ensures.cases in
    omega (
      arith,
      c.loop-lanes.invariant,
      c.from-count.ensures,
      c.count_in_lanes.ensures,
      ap line_feeds cases.0,
      ap line_feeds cases.1,
      sum_by-take-drop (λ byte. cond (eqb byte 10) 1 0) c.loop-lanes.rest.now 32,
    )

pub returns-clause-count : goal.returns-clause-count
returns-clause-count c = search rules
