use Rattle.std.proofs.Common.{◌∙◌, ◌&&◌, ◌||◌, ap, sym, Bool, List, ℕ}
use Rattle.ll_rights.specs.Rights.{has, is_file_right}
use Rattle.ll_rules.specs.Lanes.{lane}
use Rattle.ll_rules.proofs.Booleans.{and_true}
use Rattle.ll_rules.proofs.RightSets.{has_file}
use Rattle.ll_rules.proofs.cross_directory.counting_for.Goals as goal
use Rattle.ll_rules.proofs.cross_directory.counting_for.Goals.{then-is_directory, else-is_directory}

pub returns : goal.returns
returns c = λ index right.
    elim c.if-is_directory.branch [
      | then-is_directory w ↦
          ap (λ (lanes : List ℕ). has (lane lanes index) right) w.result-is
          ∙ sym (ap (λ (b : Bool). has (lane c.args.lanes index) right && (b || is_file_right right)) (sym c.is_directory.ensures ∙ w.if-is_directory.true)
          ∙ and_true (has (lane c.args.lanes index) right))
      | else-is_directory w ↦
          ap (λ (lanes : List ℕ). has (lane lanes index) right) w.result-is
          ∙ w.within.ensures index right
          ∙ ap (λ (b : Bool). has (lane c.args.lanes index) right && b) (has_file right)
          ∙ sym (ap (λ (b : Bool). has (lane c.args.lanes index) right && (b || is_file_right right)) (sym c.is_directory.ensures ∙ w.if-is_directory.false))
    ]
