use Rattle.ll_shared.specs.Nodes.{steps}
use Rattle.ll_shared.proofs.node.Node.+get.Given as goal

abbrev pub decreases-get : goal.decreases-get
decreases-get g l = steps l.self.now
