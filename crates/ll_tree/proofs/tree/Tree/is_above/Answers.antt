-- A step up keeps the answer, and at most as deep as the upper node it is whether the two are the same.
use Rattle.std.proofs.Common.{◌≡◌, ◌<◌, ◌≤◌, eqb, ◌∙◌, rules, arith}
use Rattle.ll_tree.specs.TreeFacts.{depth_at}
use Rattle.ll_tree.proofs.Positions.{climb_step, climb_end, root_depth}
use Rattle.ll_tree.proofs.tree.Tree.is_above.Goals as goal
use Rattle.ll_tree.proofs.tree.Tree.is_above.Goals.{in-Some+then-depth, in_default}

pub loop-up-preserved : goal.loop-up-preserved
loop-up-preserved c =
    let tree = c.args.self.now in
    let stands = c.in-Some.ensures.front in
    let deeper : depth_at tree c.args.upper < depth_at tree c.loop-up.node = omega (arith, c.if-depth.false, c.depth.ensures, c.depth-depth.ensures) in
    (stands.is_node, climb_step tree c.args.upper c.loop-up.node c.in-Some.up deeper stands.is_front ∙ c.loop-up.invariant.1)

pub returns : goal.returns
returns c =
    let tree = c.args.self.now in
    let above : depth_at tree c.loop-up.node ≤ depth_at tree c.args.upper =
    elim c.match-parent.branch [
      | in-Some+then-depth w ↦ omega (arith, w.if-depth.true, w.depth.ensures, c.depth-depth.ensures)
      | in_default w ↦ root_depth tree c.args.upper c.loop-up.node w.in_default.ensures.root
    ] in
    let same : c.eq.result ≡ eqb c.loop-up.node.0 c.args.upper.0 = search rules in
    same ∙ climb_end tree c.args.upper c.loop-up.node c.parent.ensures.tree c.requires.upper_is_node c.loop-up.invariant.0 above ∙ c.loop-up.invariant.1
