use Rattle.std.proofs.Common.{rules, ◌≡◌, ◌∙◌, ◌<◌, ◌&&◌, ℕ, Bool, not, length, get_or, arith, ap, refl, sym}
use Rattle.ll_rights.specs.Rights.{FsRight, has}
use Rattle.ll_tree.specs.Trees.{path_at}
use Rattle.ll_rules.specs.Layers.{granted}
use Rattle.ll_rules.specs.InTree.{in_tree}
use Rattle.ll_rules.specs.Lanes.{lane, set_of, stacked}
use Rattle.ll_rules.proofs.DomainLanes.{row_next, row_still}
use Rattle.ll_rules.proofs.Granting.{all_known, known_granted, there}
use Rattle.ll_rules.proofs.domain.Stack.left_by_grants.Goals as goal

pub loop-index-preserved : goal.loop-index-preserved
loop-index-preserved c =
    let inside : c.loop-index.index < length c.loop-index.left = omega arith in
    let before : get_or c.loop-index.left c.loop-index.index 0 ≡ get_or c.args.lanes c.loop-index.index 0 =
    c.loop-index.invariant.rest c.loop-index.index (omega arith) in
    record {
      long = search rules;
      so_far =
          row_next (λ (index value : ℕ). (right : FsRight) → has (set_of value) right ≡ (has (lane c.args.lanes index) right
          && not (granted (in_tree c.args.self.now.tree.now (stacked c.args.self.now index)) (path_at c.args.self.now.tree.now c.args.node) right)))
          c.loop-index.left c.loop-index.index c.without_granted.result inside c.loop-index.invariant.so_far
          (λ right.
          c.without_granted.ensures right
          ∙ ap (λ (bits : ℕ). has (set_of bits) right && not (has c.in_ok-on.field-0 right)) before
          ∙ ap (λ (b : Bool). has (lane c.args.lanes c.loop-index.index) right && not b)
          (known_granted c.args.self.now.tree.now c.args.self.now.layers.now c.args.self.now.ids.now c.args.node c.args.self.now.grants.now
          c.loop-index.index _ (record { 0 = 0 }) c.in_ok-grants.grants.now c.in_ok-on.field-0 right c.args.self.now.known c.loop-index-test.true refl
          (there c.in_ok-grants.grants c.get.result _ _ c.in_ok-grants.was c.get.ensures.lookup.0 c.get.ensures.lookup.1) (sym c.on.ensures ∙ c.in_ok-on.was)));
      rest = row_still c.loop-index.left c.args.lanes c.loop-index.index c.without_granted.result c.loop-index.invariant.rest;
    }

pub returns : goal.returns
returns c =
    all_known c.args.self.now.tree.now c.args.self.now.layers.now c.args.self.now.ids.now c.args.node c.args.lanes c.loop-index.left c.loop-index.index
    (omega arith) c.loop-index.invariant.so_far c.loop-index.invariant.rest
