-- Where the tree ends on the way to a path that isn't there, by the path above it.
use Rattle.std.proofs.Common.{◌≡◌, ℕ, suc, ◌+◌, ◌<◌, true, false, List, [], ◌∷◌, length, Option, Some, None, refl, sym, ap, ◌∙◌, arith}
use Rattle.std.specs.Prelude.{◌≢◌}
use Rattle.ll_tree.specs.declared.place.NodeId.{NodeId}
use Rattle.ll_lines.specs.Paths.{Name, Path, front}
use Rattle.ll_tree.specs.Trees.{Entry, is_dir, kind_at, node_at}
use Rattle.ll_explanations.specs.Meant.{above_by}
use Rattle.ll_reasons.specs.Reasons.{absent, beside, ends_at, no_directory, nowhere, or_above}

-- a path has one name more than the one above it
length_front : (name : Name) (names : Path) → length names ≡ length (front (name ∷ names))
unfolding front
length_front name [] = refl
length_front name (next ∷ names) = ap (λ (n : ℕ). suc n) (length_front next names)

pub shorter_above : (path : Path) → path ≢ [] → length (front path) < length path
shorter_above [] some = absurd (some refl)
shorter_above (name ∷ names) some = (let one : length names ≡ length (front (name ∷ names)) = length_front name names in omega (arith, one))

by_above : (tree : List Entry) (path : Path) → path ≢ [] → nowhere tree path ≡ or_above tree path (node_at tree (front path)) (nowhere tree (front path))
unfolding ends_at
by_above tree [] some = absurd (some refl)
by_above tree (name ∷ names) some =
    ap (λ (n : ℕ). or_above tree (name ∷ names) (node_at tree (front (name ∷ names))) (ends_at tree n (front (name ∷ names)))) (length_front name names)

above_there : (tree : List Entry) (path : Path) (node : NodeId) → path ≢ [] → Some node ≡ node_at tree (front path) → nowhere tree path ≡ beside tree path node
above_there tree path node some is = by_above tree path some ∙ ap (λ (above : Option NodeId). or_above tree path above (nowhere tree (front path))) (sym is)

pub above_directory : (tree : List Entry) (path above : Path) (node : NodeId) → (above ≡ front path) × (path ≢ []) → Some node ≡ node_at tree above
    → is_dir (kind_at tree node) ≡ true → absent path ≡ nowhere tree path
above_directory tree path above node up is directory = sym (above_there tree path node up.1 (is ∙ ap (node_at tree) up.0) ∙ rw directory refl)

pub above_other : (tree : List Entry) (path above : Path) (node : NodeId) → (above ≡ front path) × (path ≢ []) → Some node ≡ node_at tree above
    → is_dir (kind_at tree node) ≡ false → no_directory above ≡ nowhere tree path
above_other tree path above node up is other = ap no_directory up.0 ∙ sym (above_there tree path node up.1 (is ∙ ap (node_at tree) up.0) ∙ rw other refl)

pub above_gone : (tree : List Entry) (path : Path) → path ≢ [] → None ≡ node_at tree (front path) → nowhere tree path ≡ nowhere tree (front path)
above_gone tree path some is = by_above tree path some ∙ ap (λ (above : Option NodeId). or_above tree path above (nowhere tree (front path))) (sym is)

pub root_absent : (tree : List Entry) (path : Path) → path ≡ [] → nowhere tree path ≡ absent path
unfolding ends_at
root_absent tree path is = rw is refl

-- one name less
pub above_next : (names : ℕ) (path : Path) → above_by (names + 1) path ≡ front (above_by names path)
unfolding above_by
above_next names path = let next : names + 1 ≡ suc names = omega arith in ap (λ n. above_by n path) next

-- nothing is above the root
pub front_root : (path : Path) → path ≡ [] → front path ≡ []
unfolding front
front_root path is = rw is refl
