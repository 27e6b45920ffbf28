-- The reason that is worked out by the trail is that of the record there.
use Rattle.std.proofs.Common.{◌∙◌, ap, sym}
use Rattle.std.specs.Option.{option_map}
use Rattle.ll_reasons.specs.Explanations.{origins_at}
use Rattle.ll_explanations.specs.Meant.{reason_in}
use Rattle.ll_reasons.specs.Reasons.{reason}
use Rattle.ll_explanations.proofs.Explaining.{is_moot, place_there}
use Rattle.ll_explanations.proofs.explanation.moot.Goals as goal

pub reason_of-requires : goal.reason_of-requires
reason_of-requires c =
    place_there c.args.case.now c.args.index c.tree.result.now c.found_at-seen.result.0 c.found_at-seen.result.1.now c.found_at-seen.ensures.found
    c.first_place-spot.result c.tree.ensures c.first_place-spot.ensures

pub returns : goal.returns
returns c r eq =
    let cv = c.args.case.now in
    let found = c.found_at-seen.ensures.found in
    let o = origins_at cv.tree cv.abi cv.records c.args.index found.r.process.0 in
    is_moot cv.tree cv.abi cv.records c.args.index found.r r found.there eq c.reason_of.result
    (ap (λ op. option_map (reason_in op) c.reason_of.result) (sym found.call)
    ∙ c.reason_of.ensures o found.follows
    ∙ ap (λ tree. reason tree o c.found_at-seen.result.0) c.tree.ensures
    ∙ ap (reason cv.tree o) found.call)
