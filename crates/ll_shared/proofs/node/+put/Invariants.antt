use Rattle.ll_shared.specs.Nodes.{steps, steps_in}
use Rattle.ll_shared.proofs.node.+put.Given as goal

abbrev pub decreases-Four::put : goal.decreases-Four::put
decreases-Four::put g l = steps_in l.self.now

abbrev pub decreases-Node::put : goal.decreases-Node::put
decreases-Node::put g l = steps l.self.now
