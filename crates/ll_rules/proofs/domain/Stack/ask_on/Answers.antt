use Rattle.std.proofs.Common.{◌≡◌, ◌∙◌, ◌<◌, ◌&&◌, ℕ, not, length, get_or, ap, sym, arith, rules}
use Rattle.ll_rights.specs.Rights.{FsRight, has}
use Rattle.ll_rules.specs.Layers.{RulesOn}
use Rattle.ll_rules.specs.KeptLayers.{granted_on_node}
use Rattle.ll_rules.specs.Lanes.{lane, set_of, stacked}
use Rattle.ll_rules.proofs.DomainLanes.{row_next, row_still, row_nothing, layer_in-named, all_left}
use Rattle.ll_rules.proofs.LaneSets.{nothing_in}
use Rattle.ll_rules.proofs.domain.Stack.ask_on.Goals as goal

pub loop-index-preserved : goal.loop-index-preserved
loop-index-preserved c =
    let inside : c.loop-index.index < length c.loop-index.lanes = omega arith in
    let before : get_or c.loop-index.lanes c.loop-index.index 0 ≡ get_or c.args.lanes.now c.loop-index.index 0 =
    c.loop-index.invariant.rest c.loop-index.index (omega arith) in
    record {
      long = search rules;
      so_far =
          row_next (λ (index value : ℕ). (right : FsRight)
          → has (set_of value) right ≡ (has (lane c.args.lanes.now index) right && not (granted_on_node (stacked c.args.self.now index) c.args.node right)))
          c.loop-index.lanes c.loop-index.index c.left_of-left.result inside c.loop-index.invariant.so_far
          (λ right.
          c.left_of-left.ensures.left right
          ∙ ap (λ (bits : ℕ). has (set_of bits) right && not (granted_on_node c.layer_of.result.now c.args.node right)) before
          ∙ ap (λ (rules : RulesOn ℕ). has (lane c.args.lanes.now c.loop-index.index) right && not (granted_on_node rules c.args.node right))
          (c.layer_of.ensures ∙ sym (layer_in-named c.args.self.now.layers.now c.args.self.now.ids.now c.loop-index.index _ c.loop-index-test.true)));
      rest = row_still c.loop-index.lanes c.args.lanes.now c.loop-index.index c.left_of-left.result c.loop-index.invariant.rest;
      none = row_nothing c.loop-index.lanes c.loop-index.index c.left_of-left.result c.loop-index.all inside c.loop-index.invariant.none;
      count = omega arith;
    }

pub returns-clause-left : goal.returns-clause-left
returns-clause-left c =
    all_left c.args.self.now.layers.now c.args.self.now.ids.now c.args.lanes.now c.loop-index.lanes c.loop-index.index
    (omega arith) c.args.node c.loop-index.invariant.so_far c.loop-index.invariant.rest

pub returns-clause-none : goal.returns-clause-none
returns-clause-none c = λ is_false index inside right. nothing_in _ right (c.loop-index.invariant.none index (omega arith) (search rules))
