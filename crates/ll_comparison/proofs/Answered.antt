-- The comparisons that have been answered so far, and the text of the answers.
use Rattle.std.proofs.Common.{◌≡◌, ℕ, List, [], ◌∷◌, ◌++◌, flat_map, refl, ◌∙◌}
use Rattle.std.proofs.lemmas.List.{append-nil}
use Rattle.std.proofs.lemmas.Grind.{flat_map-append}
use Rattle.ll_lines.specs.Lines.{Line, filled_lines}
use Rattle.ll_values.proofs.Answering as answering
use Rattle.ll_values.proofs.Answering.{AreAnsweredTo}
use Rattle.ll_comparison.specs.Answers.{AreAnswers, IsAnswer}
use Rattle.ll_comparison.specs.Comparisons.{comparison_on, all_seen}

pub record AreAnswered (bytes : List ℕ) (left : List Line) (text : List ℕ) : Type 0 where
  pub texts : List (List ℕ)
  pub so_far : AreAnsweredTo comparison_on IsAnswer bytes left texts
  pub are_text : text ≡ flat_map (λ own. own) texts

pub answered_none : (bytes : List ℕ) → AreAnswered bytes (filled_lines bytes) []
answered_none bytes = record { texts = []; so_far = answering.answered_none comparison_on IsAnswer bytes; are_text = refl }

pub answered_next : (bytes : List ℕ) (lines : List Line) (line : Line) (others : List Line) (text more own : List ℕ) → lines ≡ line ∷ others
    → AreAnswered bytes lines text → more ≡ text ++ own → IsAnswer line own → AreAnswered bytes others more
answered_next bytes lines line others text more own first all next answer = record {
  texts = all.texts ++ own ∷ [];
  so_far = answering.answered_next comparison_on IsAnswer bytes lines line others all.texts (all_seen answer.comparison) own first
      all.so_far answer.read answer;
  are_text = next ∙ rw (all.are_text, flat_map-append (λ (t : List ℕ). t) all.texts (own ∷ []), append-nil own) refl;
}

pub answered_all : (bytes : List ℕ) (lines : List Line) (text : List ℕ) → lines ≡ [] → AreAnswered bytes lines text → AreAnswers bytes text
answered_all bytes lines text none all = record {
  texts = all.texts;
  each = answering.answered_all comparison_on IsAnswer bytes lines all.texts none all.so_far;
  are_text = all.are_text;
}
