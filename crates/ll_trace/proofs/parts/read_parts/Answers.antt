-- A part that is not admitted has the fault of all, one that is goes before the parts that are left, and none is left at
-- the end.
use Rattle.std.proofs.Common.{◌≡◌, [], ap, sym, subst, ◌∙◌, arith, rules, flat_map}
use Rattle.std.specs.Vec.Iter.{into_iter_items}
use Rattle.std.proofs.lemmas.List.{nil_from_length}
use Rattle.ll_lines.specs.LineByLine.{MeetsFault, read_lines}
use Rattle.ll_lines.proofs.ReadingLemmas.{read_lines_end}
use Rattle.ll_trace.specs.Entries.{trace_file}
use Rattle.ll_trace.specs.Kept.{entries}
use Rattle.ll_trace.proofs.PartLemmas.{lines_of_first}
use Rattle.ll_trace.proofs.parts.read_parts.Goals as goal

pub returns-in-Err-clause-gives : goal.returns-in-Err-clause-gives
returns-in-Err-clause-gives g c =
    subst (MeetsFault c.in-Err.fault.line c.in-Err.fault.cause)
    (sym (c.loop-part.invariant.read ∙ lines_of_first g.P.Part.lines _ c.in-Some.part _ _ c.in-Some.ensures.steps.0))
    (c.in-Err.ensures.fault _ _ c.read.ensures)

pub loop-part-preserved : goal.loop-part-preserved
loop-part-preserved g c = record {
  read = c.loop-part.invariant.read ∙ lines_of_first g.P.Part.lines _ c.in-Some.part _ _ c.in-Some.ensures.steps.0
      ∙ c.in_default.ensures.admitted _ _ c.read.ensures;
  kept = search rules;
}

pub returns-clause-gives : goal.returns-clause-gives
returns-clause-gives g c =
    let none : into_iter_items c.loop-part.part-iterator ≡ [] =
    nil_from_length _ (omega (arith, c.loop-part.part-iterator.rest.ok, c.in-None.ensures.steps.0)) in
    c.loop-part.invariant.read ∙ ap (λ left. read_lines trace_file (entries c.loop-part.reader) (flat_map g.P.Part.lines left)) none
    ∙ read_lines_end trace_file (entries c.loop-part.reader)
