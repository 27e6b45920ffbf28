-- The place that a call names first is one of the tree.
use Rattle.std.proofs.Common.{◌≡◌, ℕ, Bool, true, false, List, [], ◌∷◌, Option, None, Some, refl, if◌then◌else◌}
use Rattle.std.specs.Prelude.{IfSome}
use Rattle.ll_lines.specs.Paths.{Path, front, path_of}
use Rattle.ll_tree.specs.declared.place.NodeId.{NodeId}
use Rattle.ll_tree.specs.declared.place.Place.TheVariants as places
use Rattle.ll_tree.specs.Trees.{Entry, IsNode, is_dir, kind_at, node_at, gap_in, place_or_gap, place_of, place}
use Rattle.ll_tree.specs.TreeFacts.{IsPlace}
use Rattle.ll_tree.proofs.Positions.{node_at-IsNode, is_dir-Dir}
use Rattle.ll_trace.specs.declared.op.Op.{Op}
use Rattle.ll_trace.specs.FirstPlaces.{first_place, place_of_first, paths_of}

gap_if : (tree : List Entry) (up : NodeId) (is_directory : Bool) → is_dir (kind_at tree up) ≡ is_directory → IsNode tree up
    → IsPlace tree (if is_directory then places.Gap up else places.Nowhere)
gap_if tree up true directory there = (there, is_dir-Dir (kind_at tree up) directory)
gap_if tree up false directory there = tt

gap_inside : (tree : List Entry) (up : Option NodeId) → IfSome up (IsNode tree) → IsPlace tree (gap_in tree up)
unfolding gap_in
gap_inside tree None there = tt
gap_inside tree (Some up) there = gap_if tree up (is_dir (kind_at tree up)) refl there

found_inside : (tree : List Entry) (path : Path) (found : Option NodeId) → IfSome found (IsNode tree) → IsPlace tree (place_or_gap tree path found)
unfolding place_or_gap
found_inside tree path None there = gap_inside tree (node_at tree (front path)) (node_at-IsNode tree (front path) (node_at tree (front path)) refl)
found_inside tree path (Some here) there = there

read_inside : (tree : List Entry) (path : Option Path) → IsPlace tree (place_of tree path)
unfolding place_of
read_inside tree None = tt
read_inside tree (Some path) = found_inside tree path (node_at tree path) (node_at-IsNode tree path (node_at tree path) refl)

place_inside : (tree : List Entry) (text : List ℕ) → IsPlace tree (place tree text)
unfolding place
place_inside tree text = read_inside tree (path_of text)

pub first_place_inside : (tree : List Entry) (op : Op) → IsPlace tree (first_place tree op)
unfolding first_place
first_place_inside tree op = named (paths_of op)
  where
    named : (paths : List (List ℕ)) → IsPlace tree (place_of_first tree paths)
    named [] = tt
    named (path ∷ others) = place_inside tree path
