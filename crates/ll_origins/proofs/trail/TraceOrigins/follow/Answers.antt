use Rattle.std.proofs.Common.{◌∙◌, arith, sym, ap}
use Rattle.ll_trace.specs.Entries.{is_start}
use Rattle.ll_process.specs.Cases.{CaseValue}
use Rattle.ll_reasons.specs.Origins.{sources_at}
use Rattle.ll_origins.proofs.AtIndices.{process_there, record_there, sources_at-next}
use Rattle.ll_origins.proofs.trail.TraceOrigins.follow.Goals as goal

-- src/trail.rt:167:9
pub follow_by-requires : goal.follow_by-requires
follow_by-requires c = λ goes.
    let cv : CaseValue = c.args.case.now in
    let found = record_there cv.records c.args.index c.requires.index in
    let there = process_there cv.tree cv.abi cv.records c.args.index found.0 c.call-seen.ensures.case.numbered (omega (arith, c.requires.index)) found.1
    (ap is_start (sym (c.call-seen.ensures.op found.0 found.1)) ∙ goes) in
    omega (arith, c.requires.trails.count, there, ap (λ process. process.0) (c.call-seen.ensures.process found.0 found.1))

-- src/trail.rt:154:5
pub returns : goal.returns
returns c =
    let cv : CaseValue = c.args.case.now in
    let found = record_there cv.records c.args.index c.requires.index in
    rw (
      sources_at-next cv.tree cv.abi cv.records c.args.index found.0 c.args.answer found.1 c.requires.answer,
      ← c.call-seen.ensures.op found.0 found.1,
      ← c.call-seen.ensures.process found.0 found.1,
    )
    (c.in_ok-follow_by.ensures (sources_at cv.tree cv.abi cv.records c.args.index) c.requires.trails)
