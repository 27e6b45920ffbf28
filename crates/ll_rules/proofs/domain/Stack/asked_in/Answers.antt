use Rattle.std.proofs.Common.{◌≡◌, ◌∙◌, ◌&&◌, ◌<◌, ℕ, length, ap, sym, arith, rules}
use Rattle.ll_rights.specs.Rights.{FsRight, has}
use Rattle.ll_rules.specs.Layers.{RulesOn, handles}
use Rattle.ll_rules.specs.Lanes.{set_of, stacked}
use Rattle.ll_rules.proofs.DomainLanes.{all_asked, layer_in-named, row_next, row_rest}
use Rattle.ll_rules.proofs.domain.Stack.asked_in.Goals as goal

pub loop-index-preserved : goal.loop-index-preserved
loop-index-preserved c =
    let inside : c.loop-index.index < length c.loop-index.row = omega arith in
    record {
      long = search rules;
      so_far =
          row_next (λ (index value : ℕ). (right : FsRight)
          → has (set_of value) right ≡ (handles (stacked c.args.self.now index) right && has c.args.wanted right))
          c.loop-index.row c.loop-index.index _ inside c.loop-index.invariant.so_far
          (λ right.
          c.asked_of.ensures right
          ∙ ap (λ (rules : RulesOn ℕ). handles rules right && has c.args.wanted right)
          (c.layer_of.ensures ∙ sym (layer_in-named c.args.self.now.layers.now c.args.self.now.ids.now c.loop-index.index _ c.loop-index-test.true)));
      rest = row_rest c.loop-index.row c.loop-index.index _ c.loop-index.invariant.rest;
    }

pub returns : goal.returns
returns c = all_asked c.args.self.now.layers.now c.args.self.now.ids.now c.loop-index.row c.loop-index.index
    (omega arith) c.loop-index.invariant.rest c.args.wanted c.loop-index.invariant.so_far
