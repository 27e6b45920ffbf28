use Rattle.std.proofs.Common.{arith}
use Rattle.ll_rules.proofs.DomainLanes.{unmarked_next, unmarked_all}
use Rattle.ll_rules.proofs.domain.Stack.marked_of.Goals as goal

pub loop-id-preserved : goal.loop-id-preserved
loop-id-preserved c = record {
  lower = unmarked_next c.args.self.now.layers.now c.args.self.now.ids.now c.args.lower c.loop-id.id-index c.loop-id.at_lower c.marks_beside-at_lower.result _
      c.layer_of-layer.result.now c.loop-id-test.true c.layer_of-layer.ensures c.marks_beside-at_lower.ensures c.loop-id.invariant.lower;
  upper = unmarked_next c.args.self.now.layers.now c.args.self.now.ids.now c.args.upper c.loop-id.id-index c.loop-id.at_upper c.marks_beside-at_upper.result _
      c.layer_of-layer.result.now c.loop-id-test.true c.layer_of-layer.ensures c.marks_beside-at_upper.ensures c.loop-id.invariant.upper;
}

pub returns-clause-lower : goal.returns-clause-lower
returns-clause-lower c =
    λ unmarked. unmarked_all c.args.self.now.layers.now c.args.self.now.ids.now c.args.lower c.loop-id.id-index c.loop-id.at_lower c.index.result
    (omega arith) c.index.ensures unmarked c.loop-id.invariant.lower

pub returns-clause-upper : goal.returns-clause-upper
returns-clause-upper c =
    λ unmarked. unmarked_all c.args.self.now.layers.now c.args.self.now.ids.now c.args.upper c.loop-id.id-index c.loop-id.at_upper c.index-2.result
    (omega arith) c.index-2.ensures unmarked c.loop-id.invariant.upper
