use Rattle.std.proofs.Common.{◌∙◌, ◌≤◌, ◌+◌, length, arith}
use Rattle.std.specs.Prelude.{Some, IfSome}
use Rattle.ll_tree.specs.Trees.{IsNode}
use Rattle.ll_rules.specs.Lanes.{stacked}
use Rattle.ll_rules.proofs.Climbs.{nodes_above, passed}
use Rattle.ll_rules.proofs.DomainLanes.{count_goes_on, nodes_here, nodes_up-step, stacked-within}
use Rattle.ll_rules.proofs.domain.Stack.next_marked.Goals as goal

pub overflow_add-look_ups : goal.overflow_add-look_ups
overflow_add-look_ups c = omega (
  arith,
  c.count_filled-asked.ensures.few,
  c.requires.room,
  nodes_here c.args.self.now.tree.now c.in-Some.here (length c.args.self.now.ids.now),
  rw c.in-Some.is at c.loop-cursor.invariant.count,
)

pub overflow_add-look_ups-in-Some : goal.overflow_add-look_ups-in-Some
overflow_add-look_ups-in-Some c =
    let more : c.loop-cursor.look_ups + c.count_filled-asked.result ≤ c.loop-cursor.look_ups + length c.args.self.now.ids.now =
    omega (arith, c.count_filled-asked.ensures.few) in
    let first = count_goes_on c.args.self.now.tree.now c.in-Some.here c.parent.result (length c.args.self.now.ids.now) c.loop-cursor.look_ups
    (c.loop-cursor.look_ups + c.count_filled-asked.result) _
    c.parent.ensures.exact c.parent.ensures.front more (rw c.in-Some.is at c.loop-cursor.invariant.count) in
    omega (
      arith,
      c.count_filled-asked.ensures.few,
      c.requires.room,
      nodes_here c.args.self.now.tree.now c.in-Some-parent.up (length c.args.self.now.ids.now),
      rw c.in-Some-parent.is at first,
    )

pub returns-then-up_is-clause-above : goal.returns-then-up_is-clause-above
returns-then-up_is-clause-above c =
    let step = nodes_up-step c.args.self.now.tree.now c.in-Some.here c.parent.result c.parent.ensures.exact c.parent.ensures.front in
    omega (arith, rw c.in-Some-parent.is at step, rw c.in-Some.is at c.loop-cursor.invariant.above)

pub returns-then-up_is-clause-passed : goal.returns-then-up_is-clause-passed
returns-then-up_is-clause-passed c = λ index right.
    let here : IfSome (Some c.in-Some.here) (IsNode c.args.self.now.tree.now) = rw c.in-Some.is at c.loop-cursor.invariant.inside in
    let within = stacked-within c.args.self.now index in
    let lower =
    passed c.args.self.now.tree.now (stacked c.args.self.now index) c.in-Some.here c.parent.result right c.parent.ensures.tree here within
    c.parent.ensures.root c.parent.ensures.front (c.marked_of-here_is.ensures.lower c.if-here_is.false index right) in
    (rw c.in-Some-parent.is at lower) ∙ rw c.in-Some.is at c.loop-cursor.invariant.passed index right

pub returns-then-up_is-clause-count : goal.returns-then-up_is-clause-count
returns-then-up_is-clause-count c =
    let more : c.loop-cursor.look_ups + c.count_filled-asked.result ≤ c.loop-cursor.look_ups + length c.args.self.now.ids.now =
    omega (arith, c.count_filled-asked.ensures.few) in
    let first = count_goes_on c.args.self.now.tree.now c.in-Some.here c.parent.result (length c.args.self.now.ids.now) c.loop-cursor.look_ups
    (c.loop-cursor.look_ups + c.count_filled-asked.result) _
    c.parent.ensures.exact c.parent.ensures.front more (rw c.in-Some.is at c.loop-cursor.invariant.count) in
    rw c.in-Some-parent.is at first

pub loop-cursor-preserved : goal.loop-cursor-preserved
loop-cursor-preserved c =
    let here : IfSome (Some c.in-Some.here) (IsNode c.args.self.now.tree.now) = rw c.in-Some.is at c.loop-cursor.invariant.inside in
    let above_it : IfSome c.parent.result (IsNode c.args.self.now.tree.now) =
    nodes_above c.args.self.now.tree.now c.in-Some.here c.parent.result c.parent.ensures.front in
    let up : IfSome (Some c.in-Some-parent.up) (IsNode c.args.self.now.tree.now) = rw c.in-Some-parent.is at above_it in
    let more : c.loop-cursor.look_ups + c.count_filled-asked.result ≤ c.loop-cursor.look_ups + length c.args.self.now.ids.now =
    omega (arith, c.count_filled-asked.ensures.few) in
    let again : c.loop-cursor.look_ups + c.count_filled-asked.result + c.count_filled-asked.result
    ≤ c.loop-cursor.look_ups + c.count_filled-asked.result + length c.args.self.now.ids.now = omega (arith, c.count_filled-asked.ensures.few) in
    let first = count_goes_on c.args.self.now.tree.now c.in-Some.here c.parent.result (length c.args.self.now.ids.now) c.loop-cursor.look_ups
    (c.loop-cursor.look_ups + c.count_filled-asked.result) _
    c.parent.ensures.exact c.parent.ensures.front more (rw c.in-Some.is at c.loop-cursor.invariant.count) in
    let lower_step = nodes_up-step c.args.self.now.tree.now c.in-Some.here c.parent.result c.parent.ensures.exact c.parent.ensures.front in
    let upper_step =
    nodes_up-step c.args.self.now.tree.now c.in-Some-parent.up c.parent-cursor.result c.parent-cursor.ensures.exact c.parent-cursor.ensures.front in
    record {
      inside = nodes_above c.args.self.now.tree.now c.in-Some-parent.up c.parent-cursor.result c.parent-cursor.ensures.front;
      above = omega (arith, rw c.in-Some-parent.is at lower_step, upper_step, rw c.in-Some.is at c.loop-cursor.invariant.above);
      passed = λ index right.
          let rules = stacked c.args.self.now index in
          let within = stacked-within c.args.self.now index in
          let lower =
          passed c.args.self.now.tree.now rules c.in-Some.here c.parent.result right c.parent.ensures.tree here within c.parent.ensures.root
          c.parent.ensures.front (c.marked_of-here_is.ensures.lower c.if-here_is.false index right) in
          passed c.args.self.now.tree.now rules c.in-Some-parent.up c.parent-cursor.result right
          c.parent-cursor.ensures.tree up within c.parent-cursor.ensures.root c.parent-cursor.ensures.front
          (c.marked_of-here_is.ensures.upper c.if-up_is.false index right)
          ∙ rw c.in-Some-parent.is at lower
          ∙ rw c.in-Some.is at c.loop-cursor.invariant.passed index right;
      count =
          count_goes_on c.args.self.now.tree.now c.in-Some-parent.up c.parent-cursor.result (length c.args.self.now.ids.now)
          (c.loop-cursor.look_ups + c.count_filled-asked.result) (c.loop-cursor.look_ups + c.count_filled-asked.result + c.count_filled-asked.result) _
          c.parent-cursor.ensures.exact c.parent-cursor.ensures.front again (rw c.in-Some-parent.is at first);
    }
