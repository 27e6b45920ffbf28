use Rattle.std.proofs.Common.{◌≡◌, ◌∙◌, ℕ, List, Some, sym, rules}
use Rattle.std.proofs.lemmas.Option.{none-some}
use Rattle.ll_tree.specs.Trees.{Entry, place}
use Rattle.ll_trace.specs.declared.op.Op.{Op}
use Rattle.ll_trace.specs.FirstPlaces.{first_place}
use Rattle.ll_trace.specs.Operations.{paths_of}
use Rattle.ll_semantics.specs.declared.request.Wanted.{Wanted}
use Rattle.ll_semantics.specs.Requests.{wanted}
use Rattle.ll_explanations.specs.declared.why.Which.TheVariants.{First}
use Rattle.ll_explanations.specs.Meant.{text_named}
use Rattle.ll_trace.specs.declared.op.Op.TheVariants as calls
use Rattle.ll_explanations.proofs.mootness.reason_at_path.Goals as goal

module _ (path : List ℕ) (want : Wanted) where
  abbrev given : List ℕ × Wanted
  given = (path, want)

  first_named : (tree : List Entry) (op : Op) → Some given ≡ wanted op → first_place tree op ≡ place tree (text_named op First)
  unfolding wanted first_place text_named paths_of
  first_named tree (calls.AddPath rs path fs) is = absurd (none-some given (sym is))
  first_named tree op is = cc

pub unmet-requires : goal.unmet-requires
unmet-requires c =
    let is : Some (c.in_ok-wanted.field-0-0.now, c.in_ok-wanted.wanted) ≡ wanted c.args.op.now = search rules in
    c.requires ∙ first_named _ _ c.args.tree.now c.args.op.now is
