-- The lines of an explanation's objections, one after another: what stands in front of each.
-- Source: docs/FORMATS.md, "Explanations".
use Rattle.std.specs.Prelude.{ℕ, List, [], ◌∷◌, ◌++◌, ◌==◌, Option, codes, decimal, option_and_then, slice_get, if◌then◌else◌}
use Rattle.ll_tree.specs.Trees.{Entry}
use Rattle.ll_trace.specs.declared.op.Record.{Record}
use Rattle.ll_explanations.specs.Meanings.{objection_in}
use Rattle.ll_explanations.specs.declared.objection.LayerObjection.{LayerObjection}
use Rattle.ll_explain.specs.Words.{line_of, objection_text}

-- a layer's line begins with its number and the line of the record that made it
unfoldable pub head_of : List Record → ℕ → Option ℕ → List ℕ
head_of records number made = codes "    layer " ++ decimal number ++ codes " (line " ++ decimal (line_of (option_and_then (slice_get records) made)) ++ codes "): "

-- the end of a layer's line, where there is one before
unfoldable pub ending : ℕ → List ℕ
ending before = if before == 0 then [] else codes "\n"

-- an objection follows one of the same layer, or begins a line
unfoldable pub opening : List Record → ℕ → LayerObjection → List ℕ
opening records before one = if one.layer == before then codes "; " else ending before ++ head_of records one.layer one.made

-- it is said
unfoldable pub next_text : List Entry → List Record → ℕ → LayerObjection → List ℕ
next_text tree records before one = opening records before one ++ objection_text records (objection_in tree one.objection)

-- what is said behind an objection of this layer: more objections, and the end of the last line
unfoldable pub lines_from : List Entry → List Record → ℕ → List LayerObjection → List ℕ
lines_from tree records before [] = ending before
lines_from tree records before (one ∷ more) = next_text tree records before one ++ lines_from tree records one.layer more

-- All that unfolds when the text of an explanation is made.
unfoldable pub wording : Unit {0}
unfolding
    Rattle.ll_explain.specs.Words.explanation_text Rattle.ll_explain.specs.Words.layer_text Rattle.ll_explain.specs.Words.layer_head
    Rattle.ll_explain.specs.Words.objection_text Rattle.ll_explain.specs.Words.listed Rattle.ll_explain.specs.Words.condition_text
    Rattle.ll_explain.specs.Words.unknown_text Rattle.ll_explain.specs.Words.reason_text Rattle.ll_explain.specs.Words.path_text
    Rattle.ll_explain.specs.Words.joined Rattle.ll_explain.specs.Words.behind Rattle.ll_lines.specs.Paths.text_of
    Rattle.json.specs.Print.escape_byte
wording = tt
