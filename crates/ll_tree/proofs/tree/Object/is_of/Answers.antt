use Rattle.std.proofs.Common.{rules}
use Rattle.ll_tree.proofs.tree.Object.is_of.Goals as goal

pub as_str-requires : goal.as_str-requires
as_str-requires c κs = search rules

pub returns-then-self-mark : goal.returns-then-self-mark
returns-then-self-mark c = search rules

pub returns-else-self-mark : goal.returns-else-self-mark
returns-else-self-mark c = search rules
