use Rattle.std.proofs.Common.{rules}
use Rattle.ll_tree.proofs.tree.Tree.text.Goals as goal

pub object-requires : goal.object-requires
object-requires c = search rules

pub deref-requires : goal.deref-requires
deref-requires c κs = search rules

pub returns : goal.returns
returns c = search rules
