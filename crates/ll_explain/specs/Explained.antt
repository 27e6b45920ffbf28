-- The text behind the line of a record.
-- Source: docs/FORMATS.md, "Explanations".
use Rattle.std.specs.Prelude.{ℕ, List, [], Option, Some, None, slice_get}
use Rattle.ll_rights.specs.declared.abi.Abi.{Abi}
use Rattle.ll_tree.specs.Trees.{Entry}
use Rattle.ll_trace.specs.declared.op.Record.{Record}
use Rattle.ll_semantics.specs.declared.answer.Answer.{Answer}
use Rattle.ll_semantics.specs.Worlds.{judged}
use Rattle.ll_reasons.specs.Explanations.{explained_at, origins_at}
use Rattle.ll_explain.specs.Words.{explanation_text}

-- the text of the explanation of an answer to a record, if there are both
abbrev pub text_of_both : List Entry → Abi → List Record → ℕ → Option Record → Option Answer → List ℕ
text_of_both tree abi records index (Some r) (Some answer) =
    explanation_text records (origins_at tree abi records index r.process.0).layers (explained_at tree abi records index r answer)
text_of_both tree abi records index (Some r) None = []
text_of_both tree abi records index None answer = []

-- the text of the explanation of the record at an index of a trace
unfoldable pub text_at : List Entry → Abi → List Record → ℕ → List ℕ
text_at tree abi records index = text_of_both tree abi records index (slice_get records index) (slice_get (judged tree abi records) index)
