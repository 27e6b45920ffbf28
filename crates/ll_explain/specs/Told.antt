-- The text of an explanation as a value, by the tree and the records.
-- Source: docs/FORMATS.md, "Explanations".
use Rattle.std.specs.Prelude.{ℕ, List, [], Option, Some, None, option_map}
use Rattle.ll_tree.specs.Trees.{Entry}
use Rattle.ll_trace.specs.declared.op.Op.{Op}
use Rattle.ll_trace.specs.declared.op.Record.{Record}
use Rattle.ll_explanations.specs.Meant.{reason_in}
use Rattle.ll_findings.specs.Findings.{FindingValue, said_in}
use Rattle.ll_explanations.specs.Meanings.{condition_in}
use Rattle.ll_explanations.specs.declared.explanation.Explanation.{Explanation}
use Rattle.ll_explanations.specs.declared.explanation.Explanation.TheVariants.{Nothing, Objections, Failure, Mootness}
use Rattle.ll_explain.specs.Lines.{lines_from}
use Rattle.ll_explain.specs.Words.{alone, condition_text, mootness_text}

-- what a value says of a call
unfoldable pub value_text : List Entry → List Record → Op → Explanation → List ℕ
value_text tree records op Nothing = []
value_text tree records op (Objections all) = lines_from tree records 0 all
value_text tree records op (Failure condition) = alone (condition_text (condition_in op condition))
value_text tree records op (Mootness reason) = mootness_text (option_map (reason_in op) reason)

-- the same of a call with its explanation, if there are both
abbrev pub said_text : List Entry → List Record → Option (Op × Explanation) → List ℕ
said_text tree records None = []
said_text tree records (Some said) = value_text tree records said.0 said.1

-- the text of the explanation of the record at an index, as a finding tells it
abbrev pub text_told : List Entry → List Record → FindingValue → ℕ → List ℕ
text_told tree records finding index = said_text tree records (said_in records finding index)
