use Rattle.std.proofs.Common.{ap, ◌∙◌}
use Rattle.ll_shared.specs.Nodes.{behind, found_in}
use Rattle.ll_shared.proofs.Behind.{leaf_whole, fork_whole}
use Rattle.ll_shared.proofs.node.Node.whole.Goals as goal

pub returns-in_ok-whole-in-Leaf : goal.returns-in_ok-whole-in-Leaf
returns-in_ok-whole-in-Leaf g c =
    λ q. rw (c.in-Leaf.is, c.in_ok-whole-in-Leaf.ensures)
    (leaf_whole c.args.levels.count c.args.low c.args.bits c.in-Leaf.rest q c.in-Leaf.value c.requires)

pub returns-in_ok-more-in-Fork : goal.returns-in_ok-more-in-Fork
returns-in_ok-more-in-Fork g c =
    λ q. rw c.in-Fork.is (ap (λ f. behind c.in_ok-more-in-Fork.field-0.count c.in_ok-rest-in-Fork.rest (found_in f) q) c.in-Ok.ensures
    ∙ fork_whole c.args.levels.count c.in-Fork.more.count c.args.low c.args.bits c.in-Fork.rest _ _ (found_in c.in-Fork.four.value) q
    c.requires c.in_ok-more-in-Fork.ensures c.in_ok-rest-in-Fork.ensures)
