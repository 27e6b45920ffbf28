-- What an audit finds under one version: the answers to all records, and the explanations, where they are shown.
-- Source: docs/FORMATS.md, "Several versions".
use Rattle.std.specs.Prelude.{ℕ, List, [], length, map, if◌then◌else◌, slice_get, unwrap_or}
use Rattle.std.specs.List.{range_with_len}
use Rattle.ll_rights.specs.declared.abi.Abi.{Abi}
use Rattle.ll_tree.specs.Trees.{Entry}
use Rattle.ll_trace.specs.declared.op.Record.{Record}
use Rattle.ll_semantics.specs.declared.answer.Answer.{Answer}
use Rattle.ll_semantics.specs.declared.answer.Answer.TheVariants.{Moot}
use Rattle.ll_semantics.specs.Worlds.{judged}
use Rattle.ll_explain.specs.Explained.{text_at}
use Rattle.ll_report.specs.declared.options.Shown.{Shown}

pub record Found : Type 0 where
  pub answers : List Answer
  pub explanations : List (List ℕ)

-- What is found of records whose calls meet this tree: the answers are those of one fold over all records, and the
-- explanations the lines behind those of records.
abbrev pub found_under : Shown → List Entry → List Record → Abi → Found
found_under shown tree records abi = record {
  answers = judged tree abi records;
  explanations = if shown.explanations then map (text_at tree abi records) (range_with_len 0 (length records)) else [];
}

-- the answer to the record at an index; there is one for each record
abbrev pub answer_at : Found → ℕ → Answer
answer_at found index = unwrap_or (slice_get found.answers index) Moot

-- the explanation of the record at an index
abbrev pub explanation_at : Found → ℕ → List ℕ
explanation_at found index = unwrap_or (slice_get found.explanations index) []
