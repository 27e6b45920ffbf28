-- The place by what is found of a path, and of what is above it.
use Rattle.std.proofs.Common.{◌≡◌, ◌∙◌, Some, [], ap}
use Rattle.std.specs.Prelude.{is_some, unwrap_or}
use Rattle.ll_lines.specs.Paths.{Path, front, path_of}
use Rattle.ll_tree.specs.Trees.{node_at, gap_in, place_or_gap}
use Rattle.ll_tree.specs.TreeFacts.{spelt}
use Rattle.ll_tree.proofs.Positions.{spelt_is, place_is}
use Rattle.ll_tree.proofs.tree.Tree.place_of.Goals as goal

pub find-requires-in-None : goal.find-requires-in-None
find-requires-in-None c = ap is_some (c.front_text.ensures (spelt c.args.path.now) (spelt_is c.args.path.now c.requires))

pub returns-in-Some-clause-place : goal.returns-in-Some-clause-place
unfolding place_or_gap
returns-in-Some-clause-place c =
    ap (place_or_gap c.args.self.now (spelt c.args.path.now)) c.in-Some.ensures.found ∙ place_is c.args.self.now c.args.path.now c.requires

pub returns-in-None-clause-place : goal.returns-in-None-clause-place
unfolding place_or_gap
returns-in-None-clause-place c =
    let path : Path = spelt c.args.path.now in
    let fore : path_of c.front_text.result.now ≡ Some (front path) = c.front_text.ensures path (spelt_is c.args.path.now c.requires) in
    c.gap.ensures.gap
    ∙ ap (gap_in c.args.self.now) (c.find-in-None.ensures.found ∙ ap (node_at c.args.self.now) (ap (λ r. unwrap_or r []) fore))
    ∙ ap (place_or_gap c.args.self.now path) c.in-None.ensures.found
    ∙ place_is c.args.self.now c.args.path.now c.requires
