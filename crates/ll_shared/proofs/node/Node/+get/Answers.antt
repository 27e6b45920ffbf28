use Rattle.std.proofs.Common.{◌≢◌, sym, arith}
use Rattle.ll_shared.proofs.Copies.{held, not_held}
use Rattle.ll_shared.proofs.node.Node.+get.Goals as goal

-- a leaf has the value of its key, and of no other
pub returns-then-key-known : goal.returns-then-key-known
returns-then-key-known g t c = rw c.in-Leaf.is (held c.in-Leaf.value c.in-Leaf.known c.args.key (sym c.if-key-known.true))

pub returns-else-key-known : goal.returns-else-key-known
returns-else-key-known g t c =
    let other : c.in-Leaf.known ≢ c.args.key = omega arith in
    rw c.in-Leaf.is (not_held c.in-Leaf.value c.in-Leaf.known c.args.key other)
