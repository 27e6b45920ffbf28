use Rattle.std.proofs.Common.{◌<◌, ap, arith, length, subst}
use Rattle.ll_process.specs.Cases.{CaseValue}
use Rattle.ll_reasons.specs.Explanations.{origins_at}
use Rattle.ll_origins.proofs.AtIndices.{process_there, record_there}
use Rattle.ll_origins.specs.TraceOrigins.{Follows}
use Rattle.ll_explanations.proofs.Explaining.{index_within, starts_nothing}
use Rattle.ll_explanations.proofs.explanation.found_at.Goals as goal

pub call-seen-requires : goal.call-seen-requires
call-seen-requires c =
    let cv : CaseValue = c.args.case.now in
    index_within cv.tree cv.abi cv.records c.args.index c.args.answer c.requires.answer

pub of-requires : goal.of-requires
of-requires c =
    let cv : CaseValue = c.args.case.now in
    let within : c.args.index < length cv.records = index_within cv.tree cv.abi cv.records c.args.index c.args.answer c.requires.answer in
    let found = record_there cv.records c.args.index within in
    let goes = starts_nothing cv.tree cv.abi cv.records c.args.index found.0 c.args.answer found.1 c.requires.answer c.requires.known in
    omega (
      arith,
      c.requires.trails.count,
      process_there cv.tree cv.abi cv.records c.args.index found.0 c.call-seen.ensures.case.numbered (omega (arith, within)) found.1 goes,
      ap (λ process. process.0) (c.call-seen.ensures.process found.0 found.1),
    )

pub returns : goal.returns
unfolding origins_at
returns c =
    let cv : CaseValue = c.args.case.now in
    let found = record_there cv.records c.args.index (index_within cv.tree cv.abi cv.records c.args.index c.args.answer c.requires.answer) in
    let process = c.call-seen.ensures.process found.0 found.1 in
    record {
      case = c.call-seen.ensures.case;
      found = record {
        r = found.0;
        there = found.1;
        call = c.call-seen.ensures.op found.0 found.1;
        follows = subst (λ p. Follows c.of.result.now (origins_at cv.tree cv.abi cv.records c.args.index p.0)) process
            (c.requires.trails.each c.call-seen.result.1.0 c.of.result.now c.of.ensures);
      };
    }
