use Rattle.std.proofs.Common.{◌≡◌, drop}
use Rattle.serde_json.specs.View.{items_view}
use Rattle.ll_lines.specs.Members.{fold_texts}
use Rattle.ll_rights.specs.Families.{no_right, with_name}
use Rattle.ll_values.proofs.members.set_in_list.Given as goal

abbrev pub invariant-loop-name : goal.invariant-loop-name
invariant-loop-name g l =
    let sets = g.S.RightSet.family in
    fold_texts (with_name sets) l.set (items_view (drop l.name-index l.names)) ≡ fold_texts (with_name sets) (no_right sets) (items_view l.names)
