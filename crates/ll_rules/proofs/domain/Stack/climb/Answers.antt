use Rattle.std.proofs.Common.{arith, subst, ℕ, ◌+◌, ◌*◌, ◌<◌, ◌≤◌, ◌^◌, length, inl, inr}
use Rattle.std.specs.Prelude.{Some, IfSome}
use Rattle.std.proofs.lemmas.Bool.{cases_lt}
use Rattle.ll_rights.specs.Rights.{has}
use Rattle.ll_tree.specs.Trees.{IsNode}
use Rattle.ll_tree.specs.TreeFacts.{depth_at}
use Rattle.ll_rules.specs.Lanes.{lane, stacked}
use Rattle.ll_rules.specs.InTree.{nodes_up}
use Rattle.ll_rules.proofs.Climbs.{nodes_above}
use Rattle.ll_rules.proofs.DomainLanes.{count_begins, count_goes_on, few_look_ups, left_begins, left_passed, left_goes_on, left_ends}
use Rattle.ll_rules.proofs.DomainLanes.{left_nothing, left_unasked, layer_in-past, stacked-within, way_shorter}
use Rattle.ll_rules.proofs.domain.Stack.climb.Goals as goal

-- of empty lanes nothing is left
pub returns-then-not-is_any_filled-clause-left : goal.returns-then-not-is_any_filled-clause-left
returns-then-not-is_any_filled-clause-left c = λ index right.
    let rules = stacked c.args.self.now index in
    let held = has (lane c.args.lanes.now index) right in
    let begins = left_begins c.args.self.now.tree.now rules c.args.node right held in
    elim (cases_lt index (length c.args.self.now.ids.now)) [
      | inl inside ↦ left_nothing c.args.self.now.tree.now rules (Some c.args.node) right held _
          (c.is_any_filled.ensures.none c.if-not-is_any_filled.true index inside right) begins
      | inr past ↦ left_unasked c.args.self.now.tree.now rules (Some c.args.node) right held _
          (layer_in-past c.args.self.now.layers.now c.args.self.now.ids.now index past) begins
    ]

pub loop-here-init : goal.loop-here-init
loop-here-init c = record {
  inside = c.requires;
  so_far = λ index right. left_begins c.args.self.now.tree.now (stacked c.args.self.now index) c.args.node right _;
  count = omega (arith, count_begins c.args.self.now.tree.now c.args.node (length c.args.self.now.ids.now) 0);
}

-- once nothing is left, all that the lanes had is granted
pub returns-then-not-is_any_left-clause-left : goal.returns-then-not-is_any_left-clause-left
returns-then-not-is_any_left-clause-left c = λ index right.
    let here : IfSome (Some c.in-Some-next_marked.here) (IsNode c.args.self.now.tree.now) = rw c.in-Some-next_marked.is at c.next_marked.ensures.inside in
    let rules = stacked c.args.self.now index in
    let passed = left_passed c.args.self.now.tree.now rules c.loop-here.cursor c.next_marked.result right (has (lane c.loop-here.lanes index) right) _
    (c.next_marked.ensures.passed index right) (c.loop-here.invariant.so_far index right) in
    let so_far = left_goes_on c.args.self.now.tree.now rules c.in-Some-next_marked.here c.parent-cursor.result right (has (lane c.loop-here.lanes index) right)
    (has (lane c.ask_on-is_any_left.new.lanes index) right) _
    c.parent-cursor.ensures.tree here (stacked-within c.args.self.now index) c.parent-cursor.ensures.root c.parent-cursor.ensures.front
    (c.ask_on-is_any_left.ensures.left index right) (rw c.in-Some-next_marked.is at passed) in
    elim (cases_lt index (length c.args.self.now.ids.now)) [
      | inl inside ↦ left_nothing c.args.self.now.tree.now rules c.parent-cursor.result right (has (lane c.ask_on-is_any_left.new.lanes index) right) _
          (c.ask_on-is_any_left.ensures.none c.if-not-is_any_left.true index inside right) so_far
      | inr past ↦ left_unasked c.args.self.now.tree.now rules c.parent-cursor.result right (has (lane c.ask_on-is_any_left.new.lanes index) right) _
          (layer_in-past c.args.self.now.layers.now c.args.self.now.ids.now index past) so_far
    ]

pub returns-then-not-is_any_left-clause-count : goal.returns-then-not-is_any_left-clause-count
returns-then-not-is_any_left-clause-count c =
    let bound : c.next_marked.new.look_ups + length c.args.self.now.ids.now * nodes_up c.args.self.now.tree.now c.next_marked.result
    ≤ length c.args.self.now.ids.now * (depth_at c.args.self.now.tree.now c.args.node + 1) =
    omega (arith, c.next_marked.ensures.count, c.loop-here.invariant.count) in
    omega (
      arith,
      count_goes_on c.args.self.now.tree.now c.in-Some-next_marked.here c.parent-cursor.result (length c.args.self.now.ids.now) c.next_marked.new.look_ups
          (c.next_marked.new.look_ups + c.ask_on-is_any_left.result.1) _
          c.parent-cursor.ensures.exact c.parent-cursor.ensures.front (omega (arith, c.ask_on-is_any_left.ensures.count))
          (rw c.in-Some-next_marked.is at bound),
    )

pub loop-here-preserved : goal.loop-here-preserved
loop-here-preserved c =
    let here : IfSome (Some c.in-Some-next_marked.here) (IsNode c.args.self.now.tree.now) = rw c.in-Some-next_marked.is at c.next_marked.ensures.inside in
    let bound : c.next_marked.new.look_ups + length c.args.self.now.ids.now * nodes_up c.args.self.now.tree.now c.next_marked.result
    ≤ length c.args.self.now.ids.now * (depth_at c.args.self.now.tree.now c.args.node + 1) =
    omega (arith, c.next_marked.ensures.count, c.loop-here.invariant.count) in
    record {
      inside = nodes_above c.args.self.now.tree.now c.in-Some-next_marked.here c.parent-cursor.result c.parent-cursor.ensures.front;
      so_far = λ index right.
          let rules = stacked c.args.self.now index in
          let passed = left_passed c.args.self.now.tree.now rules c.loop-here.cursor c.next_marked.result right (has (lane c.loop-here.lanes index) right) _
          (c.next_marked.ensures.passed index right) (c.loop-here.invariant.so_far index right) in
          left_goes_on c.args.self.now.tree.now rules c.in-Some-next_marked.here c.parent-cursor.result right (has (lane c.loop-here.lanes index) right)
          (has (lane c.ask_on-is_any_left.new.lanes index) right) _
          c.parent-cursor.ensures.tree here (stacked-within c.args.self.now index) c.parent-cursor.ensures.root c.parent-cursor.ensures.front
          (c.ask_on-is_any_left.ensures.left index right) (rw c.in-Some-next_marked.is at passed);
      count =
          count_goes_on c.args.self.now.tree.now c.in-Some-next_marked.here c.parent-cursor.result (length c.args.self.now.ids.now) c.next_marked.new.look_ups
          (c.next_marked.new.look_ups + c.ask_on-is_any_left.result.1) _
          c.parent-cursor.ensures.exact c.parent-cursor.ensures.front (omega (arith, c.ask_on-is_any_left.ensures.count))
          (rw c.in-Some-next_marked.is at bound);
    }

pub loop-here-smaller : goal.loop-here-smaller
loop-here-smaller c =
    way_shorter c.args.self.now.tree.now c.loop-here.cursor c.in-Some-next_marked.here c.parent-cursor.result
    c.parent-cursor.ensures.exact c.parent-cursor.ensures.front (rw c.in-Some-next_marked.is at c.next_marked.ensures.above)

pub returns-clause-left : goal.returns-clause-left
returns-clause-left c = λ index right.
    let rules = stacked c.args.self.now index in
    let passed = left_passed c.args.self.now.tree.now rules c.loop-here.cursor c.next_marked.result right (has (lane c.loop-here.lanes index) right) _
    (c.next_marked.ensures.passed index right) (c.loop-here.invariant.so_far index right) in
    left_ends c.args.self.now.tree.now rules right (has (lane c.loop-here.lanes index) right) _ (rw c.in_default-next_marked.is at passed)

pub returns-clause-count : goal.returns-clause-count
returns-clause-count c = omega (arith, c.loop-here.invariant.count, c.next_marked.ensures.count)

pub returns-clause-little : goal.returns-clause-little
returns-clause-little c =
    let low = subst (λ (depth : ℕ). depth < 2 ^ 32) c.depth-depth.ensures c.depth-depth.type_inv in
    let few = few_look_ups (length c.args.self.now.ids.now) (depth_at c.args.self.now.tree.now c.args.node) c.args.self.now.few low in
    omega (arith, c.loop-here.invariant.count, c.next_marked.ensures.count, few)
