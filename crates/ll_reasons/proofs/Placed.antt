-- What a place says of the path that it is the place of, and that it is of the tree.
use Rattle.std.proofs.Common.{◌≡◌, ℕ, true, List, Option, Some, None, is_some, refl, sym, inl, inr}
use Rattle.std.proofs.lemmas.Bool.{cases_Bool}
use Rattle.ll_tree.specs.declared.place.NodeId.{NodeId}
use Rattle.ll_tree.specs.declared.place.Place.{Place}
use Rattle.ll_tree.specs.declared.place.Place.TheVariants.{Node, Gap, Nowhere}
use Rattle.ll_lines.specs.Paths.{Path, front, path_of}
use Rattle.ll_tree.specs.Trees.{Entry, kind_at, is_dir, node_at, gap_in, place_or_gap, place_of, place}
use Rattle.ll_tree.specs.TreeFacts.{IsPlace}
use Rattle.ll_tree.proofs.Positions.{node_at-IsNode, is_dir-Dir}
use Rattle.ll_reasons.specs.Reasons.{spelt}

unfoldable pub Placed : List Entry → Path → Place → Type 0
Placed tree path (Node node) = node_at tree path ≡ Some node
Placed tree path (Gap directory) = (node_at tree path ≡ None) × (node_at tree (front path) ≡ Some directory) × (is_dir (kind_at tree directory) ≡ true)
Placed tree path Nowhere = node_at tree path ≡ None

gap_placed : (tree : List Entry) (path : Path) (above : Option NodeId) → node_at tree path ≡ None → node_at tree (front path) ≡ above
    → Placed tree path (gap_in tree above)
unfolding Placed gap_in
gap_placed tree path None none is = none
gap_placed tree path (Some directory) none is = elim (cases_Bool (is_dir (kind_at tree directory))) [
  | inl holds ↦ rw holds (none, is, holds)
  | inr fails ↦ rw fails none
]

node_placed : (tree : List Entry) (path : Path) (node : Option NodeId) → node_at tree path ≡ node → Placed tree path (place_or_gap tree path node)
unfolding Placed place_or_gap
node_placed tree path None none = gap_placed tree path (node_at tree (front path)) none refl
node_placed tree path (Some node) is = is

pub text_placed : (tree : List Entry) (text : List ℕ) (path : Option Path) → path_of text ≡ path → is_some path ≡ true
    → Placed tree (spelt text) (place tree text)
unfolding place place_of
text_placed tree text None is some = cc
text_placed tree text (Some path) is some = rw is (node_placed tree path (node_at tree path) refl)

placed_inside : (tree : List Entry) (path : Path) (spot : Place) → Placed tree path spot → IsPlace tree spot
unfolding Placed
placed_inside tree path (Node node) is = node_at-IsNode tree path (Some node) (sym is)
placed_inside tree path (Gap directory) is = (node_at-IsNode tree (front path) (Some directory) (sym is.1), is_dir-Dir (kind_at tree directory) is.2)
placed_inside tree path Nowhere is = tt

read_inside : (tree : List Entry) (path : Option Path) → IsPlace tree (place_of tree path)
unfolding place_of
read_inside tree None = tt
read_inside tree (Some path) = placed_inside tree path (place_or_gap tree path (node_at tree path)) (node_placed tree path (node_at tree path) refl)

pub place_inside : (tree : List Entry) (text : List ℕ) → IsPlace tree (place tree text)
unfolding place
place_inside tree text = read_inside tree (path_of text)
