-- A call that wants something wants it at its first path.
use Rattle.std.proofs.Common.{◌≡◌, ◌∙◌, ℕ, List, [], Option, Some, None, sym, ap, subst}
use Rattle.std.specs.Prelude.{option_map}
use Rattle.std.proofs.lemmas.Option.{none-some}
use Rattle.ll_tree.specs.Trees.{Entry, IsNode, place}
use Rattle.ll_tree.specs.TreeFacts.{IsPlace}
use Rattle.ll_tree.specs.declared.place.NodeId.{NodeId}
use Rattle.ll_tree.specs.declared.place.Place.TheVariants.{Node}
use Rattle.ll_reasons.proofs.Placed.{place_inside}
use Rattle.ll_trace.specs.declared.op.Op.{Op}
use Rattle.ll_trace.specs.declared.op.Op.TheVariants as calls
use Rattle.ll_trace.specs.Operations.{paths_of}
use Rattle.ll_semantics.specs.declared.request.Wanted.{Wanted}
use Rattle.ll_semantics.specs.Requests.{wanted}
use Rattle.ll_explanations.specs.declared.why.Which.TheVariants.{First}
use Rattle.ll_explanations.specs.Meant.{path_named, text_named}
use Rattle.ll_reasons.specs.Reasons.{spelt, unmet}

module _ (path : List ℕ) (want : Wanted) where
  abbrev given : List ℕ × Wanted
  given = (path, want)

  path_of_some : Option (List ℕ × Wanted) → List ℕ
  path_of_some None = []
  path_of_some (Some w) = w.0

  first_path : (op : Op) → Some given ≡ wanted op → text_named op First ≡ path
  unfolding wanted text_named paths_of path_of_some
  first_path (calls.OpenFile here fd mode create trunc) is = sym (ap path_of_some is)
  first_path (calls.Truncate here) is = sym (ap path_of_some is)
  first_path (calls.Exec here) is = sym (ap path_of_some is)
  first_path (calls.Mknod here kind) is = sym (ap path_of_some is)
  first_path (calls.Mkdir here) is = sym (ap path_of_some is)
  first_path (calls.Symlink here) is = sym (ap path_of_some is)
  first_path (calls.Unlink here) is = sym (ap path_of_some is)
  first_path (calls.Rmdir here) is = sym (ap path_of_some is)
  first_path op is = absurd (none-some given (sym is))

  pub unmet_wanted : (tree : List Entry) (op : Op) → Some given ≡ wanted op → Some (unmet tree (path_named op First) (place tree (text_named op First)) want)
      ≡ option_map (λ (w : List ℕ × Wanted). unmet tree (spelt w.0) (place tree w.0) w.1) (wanted op)
  unmet_wanted tree op is =
      ap (λ (text : List ℕ). Some (unmet tree (spelt text) (place tree text) want)) (first_path op is)
      ∙ ap (option_map (λ (w : List ℕ × Wanted). unmet tree (spelt w.0) (place tree w.0) w.1)) is

-- a node to which a text leads is of the tree
pub node_there : (tree : List Entry) (text : List ℕ) (node : NodeId) → place tree text ≡ Node node → IsNode tree node
node_there tree text node is = subst (IsPlace tree) is (place_inside tree text)
