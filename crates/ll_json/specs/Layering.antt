-- Objections that are written one after another: the tokens in front of each, which end a layer and begin the next.
-- Source: docs/FORMATS.md, "Explanations".
use Rattle.std.specs.Prelude.{ℕ, List, [], ◌∷◌, ◌++◌, ◌==◌, Option, codes, decimal, option_and_then, slice_get, if◌then◌else◌}
use Rattle.json.specs.Token as token
use Rattle.json.specs.Token.{Token}
use Rattle.json.specs.Tree.{json_tokens}
use Rattle.ll_tree.specs.Trees.{Entry}
use Rattle.ll_trace.specs.declared.op.Record.{Record}
use Rattle.ll_explain.specs.Words.{line_of}
use Rattle.ll_explanations.specs.Meanings.{objection_in}
use Rattle.ll_explanations.specs.declared.objection.LayerObjection.{LayerObjection}
use Rattle.ll_json.specs.Why.{objection_json}

-- a layer begins with its number, the line of the record that made it, and the bracket before its objections
unfoldable pub head_of : List Record → ℕ → Option ℕ → List Token
head_of records number made =
    token.begin_object
    ∷ token.key (codes "layer") ∷ token.number (decimal number)
    ∷ token.key (codes "line") ∷ token.number (decimal (line_of (option_and_then (slice_get records) made)))
    ∷ token.key (codes "objections") ∷ token.begin_array ∷ []

-- the end of a layer, where there is one before
unfoldable pub ending : ℕ → List Token
ending before = if before == 0 then [] else token.end_array ∷ token.end_object ∷ []

-- an objection follows one of the same layer, or begins a layer
unfoldable pub opening : List Record → ℕ → LayerObjection → List Token
opening records before one = if one.layer == before then [] else ending before ++ head_of records one.layer one.made

-- it is written
unfoldable pub next_tokens : List Entry → List Record → ℕ → LayerObjection → List Token
next_tokens tree records before one = opening records before one ++ json_tokens (objection_json records (objection_in tree one.objection))

-- the objections that follow one of this layer, or begin the first of all, and the end of the last layer
unfoldable pub objections_from : List Entry → List Record → ℕ → List LayerObjection → List Token
objections_from tree records before [] = ending before
objections_from tree records before (one ∷ more) = next_tokens tree records before one ++ objections_from tree records one.layer more
