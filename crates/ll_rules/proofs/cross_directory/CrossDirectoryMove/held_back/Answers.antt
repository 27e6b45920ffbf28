use Rattle.std.proofs.Common.{◌∙◌, ◌&&◌, ap, refl, Bool}
use Rattle.ll_rights.specs.Rights.{has, only}
use Rattle.ll_rules.specs.InTree.{in_tree}
use Rattle.ll_rules.specs.Lanes.{lane, stacked}
use Rattle.ll_rules.specs.Moves.{source_of, destination_of}
use Rattle.ll_rules.proofs.DomainLanes.{stacked-within}
use Rattle.ll_rules.proofs.MoveLanes.{either_some, kept_some, gained_some, held_numbers}
use Rattle.ll_rules.proofs.cross_directory.CrossDirectoryMove.held_back.Goals as goal

pub returns-clause-held : goal.returns-clause-held
unfolding only
returns-clause-held c =
    let stack = c.args.self.now.stack in
    c.filled.ensures ∙ held_numbers stack.tree.now c.args.self.now.attempt stack.layers.now stack.ids.now stack.few c.either-3.result (λ index.
    either_some (lane c.either-3.result index) (lane c.within-kept.result index) (lane c.either-2.result index) _ _ (c.either-3.ensures index)
    (kept_some (in_tree c.args.self.now.stack.tree.now (stacked c.args.self.now.stack index)) (source_of c.args.self.now.stack.tree.now c.args.self.now.attempt)
    (destination_of c.args.self.now.stack.tree.now c.args.self.now.attempt.target)
    (has (lane c.args.self.now.lacking.source index)) (has (lane c.args.self.now.lacking.destination index)) (c.args.self.now.at_source index)
    (c.args.self.now.at_destination index) (lane c.within-kept.result index) (record { 0 = 8192 }) refl
    (λ right. c.within-kept.ensures index right ∙ ap (λ (b : Bool). b && has (record { 0 = 8192 }) right) (c.either.ensures index right)))
    (either_some (lane c.either-2.result index) (lane c.gained-first.result.0 index) (lane c.other_gained-second.result.0 index) _ _ (c.either-2.ensures index)
    (gained_some c.args.self.now.stack.tree.now (stacked c.args.self.now.stack index) c.args.self.now.attempt.moved
    (destination_of c.args.self.now.stack.tree.now c.args.self.now.attempt.target) (lane c.gained-first.result.0 index)
    (lane c.args.self.now.lacking.source index) (lane c.args.self.now.lacking.destination index)
    c.args.self.now.tree c.args.self.now.moved (stacked-within c.args.self.now.stack index) (c.args.self.now.at_source index)
    (c.args.self.now.at_destination index) (c.gained-first.ensures.gained index))
    (c.other_gained-second.ensures.gained index)))
