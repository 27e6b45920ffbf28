-- The condition that is worked out by the trail is that of the record there.
use Rattle.std.proofs.Common.{◌∙◌, ap, sym}
use Rattle.ll_rights.specs.declared.abi.Abi.{Abi}
use Rattle.ll_trace.specs.declared.op.Op.{Op}
use Rattle.ll_reasons.specs.Conditions.{condition}
use Rattle.ll_reasons.specs.Explanations.{origins_at}
use Rattle.ll_explanations.specs.Meanings.{condition_in}
use Rattle.ll_explanations.proofs.Explaining.{fails}
use Rattle.ll_explanations.proofs.explanation.failed.Goals as goal

pub returns : goal.returns
returns c r eq =
    let cv = c.args.case.now in
    let found = c.found_at-seen.ensures.found in
    let o = origins_at cv.tree cv.abi cv.records c.args.index found.r.process.0 in
    fails cv.tree cv.abi cv.records c.args.index found.r r found.there eq c.args.error c.condition_of.result
    (ap (λ (op : Op). condition_in op c.condition_of.result) (sym found.call)
    ∙ c.condition_of.ensures o found.follows
    ∙ ap (λ (abi : Abi). condition abi cv.records o c.found_at-seen.result.0 c.args.error) c.abi.ensures
    ∙ ap (λ (op : Op). condition cv.abi cv.records o op c.args.error) found.call)
