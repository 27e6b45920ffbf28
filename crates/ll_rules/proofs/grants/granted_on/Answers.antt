use Rattle.ll_rules.proofs.Granting.{granted_below, granted_top}
use Rattle.ll_rules.proofs.grants.granted_on.Goals as goal

pub returns-in-Some : goal.returns-in-Some
returns-in-Some c = λ right.
    granted_below c.args.tree.now c.args.layer.now c.args.node c.in-Some.up c.rule_at-own.result c.union.result _ c.args.sets.now right c.parent.ensures.tree
    c.requires.node c.requires.rules tt (rw c.in-Some.is at c.parent.ensures.front) c.requires.before c.requires.known c.rule_at-own.ensures
    (rw c.index.ensures at c.union.ensures)

pub returns-in-None : goal.returns-in-None
returns-in-None c = λ right.
    granted_top c.args.tree.now c.args.layer.now c.args.node c.rule_at-own.result right c.parent.ensures.tree c.requires.node c.requires.rules
    (rw c.in-None.is at c.parent.ensures.root) c.rule_at-own.ensures
