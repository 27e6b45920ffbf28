-- Comparisons on the lines of a file, and the answers to them.
-- Source: landaudit-rules(1).
use Rattle.std.specs.Prelude.{◌≡◌, ℕ, List, flat_map, Ok}
use Rattle.std.specs.List.{AllZip}
use Rattle.ll_lines.specs.Lines.{Line, filled_lines}
use Rattle.ll_lines.specs.Reading.{Format}
use Rattle.ll_values.specs.Answers.{by_line}
use Rattle.ll_values.specs.Texts.{line_of}
use Rattle.ll_comparison.specs.declared.comparison.Comparison.{Comparison as Compared}
use Rattle.ll_comparison.specs.declared.found.Found.{Found}
use Rattle.ll_comparison.specs.Comparisons.{Comparison, comparison_on, all_seen}
use Rattle.ll_comparison.specs.Findings.{IsFound}
use Rattle.ll_comparison.specs.Texts.{found_json}

-- a comparison on each line
abbrev pub comparison_format : Format Comparison
comparison_format = by_line comparison_on

-- the text answers a line: it says what is found of the line's comparison
pub record IsAnswer (line : Line) (text : List ℕ) : Type 0 where
  pub comparison : Compared
  pub found : Found
  pub read : comparison_on line.bytes ≡ Ok (all_seen comparison)
  pub is : IsFound comparison found
  pub is_text : text ≡ line_of (found_json found)

-- an answer for each line that isn't blank
pub record AreAnswers (bytes : List ℕ) (text : List ℕ) : Type 0 where
  pub texts : List (List ℕ)
  pub each : AllZip IsAnswer (filled_lines bytes) texts
  pub are_text : text ≡ flat_map (λ own. own) texts
