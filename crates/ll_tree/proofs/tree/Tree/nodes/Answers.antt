-- As many objects are kept as there are entries.
use Rattle.std.proofs.Common.{arith}
use Rattle.ll_tree.proofs.Keeping.{length_is}
use Rattle.ll_tree.proofs.tree.Tree.nodes.Goals as goal

pub returns-clause-count : goal.returns-clause-count
returns-clause-count c = omega (arith, length_is c.self.inside.objects.items c.args.self.now c.self.view_is, c.self.inside.objects.ok.0)

pub returns-clause-limit : goal.returns-clause-limit
returns-clause-limit c = omega (arith, length_is c.self.inside.objects.items c.args.self.now c.self.view_is, c.self.invariant.small)
