-- What is kept of the explanation of a record: nothing where there is nothing to explain, else the value.
-- Source: docs/FORMATS.md, "Explanations" and "Several versions".
use Rattle.std.specs.Prelude.{Option, Some, None, if◌then◌else◌}
use Rattle.ll_explanations.specs.Explained.{is_silent}
use Rattle.ll_explanations.specs.declared.explanation.Explanation.{Explanation}

-- what there is of an explanation, if there is anything to explain
abbrev pub if_said : {A : Type 0} → Explanation → A → Option A
if_said e said = if is_silent e then None else Some said

abbrev pub kept_of : Explanation → Option Explanation
kept_of e = if_said e e
