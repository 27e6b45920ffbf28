-- The object at a node's place is that node's.
use Rattle.std.proofs.Common.{arith}
use Rattle.ll_tree.proofs.Keeping.{within_is, kind_is, of_node}
use Rattle.ll_tree.proofs.tree.Tree.object.Goals as goal

pub index-requires : goal.index-requires
index-requires c = omega (arith, within_is c.self.inside.objects.items c.args.self.now c.self.view_is c.args.node.0 c.requires, c.self.inside.objects.ok.0)

pub returns-clause-kind : goal.returns-clause-kind
returns-clause-kind c = kind_is c.self.inside.objects.items c.args.self.now c.self.view_is c.args.node c.index.result.now c.requires c.index.ensures

pub returns-clause-parent : goal.returns-clause-parent
returns-clause-parent c =
    (of_node c.self.inside.objects.items c.args.self.now c.self.view_is c.args.node c.index.result.now c.requires c.index.ensures _ _ c.self.invariant).parent

pub returns-clause-depth : goal.returns-clause-depth
returns-clause-depth c =
    (of_node c.self.inside.objects.items c.args.self.now c.self.view_is c.args.node c.index.result.now c.requires c.index.ensures _ _ c.self.invariant).depth

pub returns-clause-text : goal.returns-clause-text
returns-clause-text c =
    (of_node c.self.inside.objects.items c.args.self.now c.self.view_is c.args.node c.index.result.now c.requires c.index.ensures _ _ c.self.invariant).text
