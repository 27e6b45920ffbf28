-- The place of the path tells the fault.
use Rattle.std.proofs.Common.{◌≡◌, ap, ltb, length, true, false, refl, Some, None, cond, arith}
use Rattle.std.proofs.lemmas.Bool.Decides.{nat_tests}
use Rattle.ll_lines.specs.declared.fault.Cause.TheVariants.{Twice, NoParent, TooMany}
use Rattle.ll_tree.specs.declared.tree.TheConstants.{MOST_NODES}
use Rattle.ll_tree.specs.TreeFacts.{named}
use Rattle.ll_tree.proofs.TreeLines.{fault_at, with_entry-fault, with_entry-added, rooted_later}
use Rattle.ll_tree.proofs.tree.Tree.list.Goals as goal

pub returns-in-Node-clause-entry : goal.returns-in-Node-clause-entry
unfolding fault_at
returns-in-Node-clause-entry c =
    with_entry-fault c.args.self.now c.args.path.now c.args.kind _ c.in-Node.ensures.tree c.requires c.in-Node.ensures.place Twice refl

pub returns-in-Nowhere-clause-entry : goal.returns-in-Nowhere-clause-entry
unfolding fault_at
returns-in-Nowhere-clause-entry c =
    with_entry-fault c.args.self.now c.args.path.now c.args.kind _ c.in-Nowhere.ensures.tree c.requires c.in-Nowhere.ensures.place NoParent refl

pub returns-in-Gap-clause-entry : goal.returns-in-Gap-clause-entry
unfolding fault_at
returns-in-Gap-clause-entry c =
    let count = c.nodes.ensures.count in
    let many = c.if-nodes-ge-MOST_NODES.true in
    let full : ltb (length c.args.self.now) MOST_NODES ≡ false = grind (arith, nat_tests) in
    with_entry-fault c.args.self.now c.args.path.now c.args.kind _ c.in-Gap.ensures.tree c.requires c.in-Gap.ensures.place TooMany
    (ap (λ b. cond b None (Some TooMany)) full)

pub returns-in_ok-add-in-Gap-2-clause-entry : goal.returns-in_ok-add-in-Gap-2-clause-entry
unfolding fault_at
returns-in_ok-add-in-Gap-2-clause-entry c =
    let count = c.nodes.ensures.count in
    let few = c.if-nodes-ge-MOST_NODES.false in
    let room : ltb (length c.args.self.now) MOST_NODES ≡ true = grind (arith, nat_tests) in
    with_entry-added c.args.self.now c.args.path.now c.args.kind _ c.in-Gap-2.ensures.tree c.requires c.in-Gap-2.ensures.place c.add.new.self
    (ap (λ b. cond b None (Some TooMany)) room) c.in_ok-add-in-Gap-2.ensures.ok

pub returns-in_ok-add-in-Gap-2-clause-rooted : goal.returns-in_ok-add-in-Gap-2-clause-rooted
returns-in_ok-add-in-Gap-2-clause-rooted c =
    rooted_later c.args.self.now c.add.new.self (named c.args.path.now c.args.kind) c.in-Gap-2.ensures.tree c.in_ok-add-in-Gap-2.ensures.ok
