-- What a line of a trace says by names: its operation, and the rights of a set.
-- Source: docs/FORMATS.md, "The trace file".
use Rattle.std.specs.Prelude.{◌≡◌, ℕ, List, [], ◌∷◌, Ok, codes, unwrap_or}
use Rattle.serde_json.specs.Data.{Data, Items, no_items, item}
use Rattle.serde_json.specs.Find.{as_str}
use Rattle.ll_lines.specs.Lines.{Line}
use Rattle.ll_lines.specs.Members.{text_at, value_at}

-- a line of a trace says its operation by this word, its object's member "op"
pub record SaysOperation (line : Line) (word : List ℕ) : Type 0 where
  pub value : Data
  pub object : value_at line.bytes ≡ Ok value
  pub word_said : text_at (codes "op") value ≡ Ok word

-- the texts of a list, for the law that a set has just the rights that its names stand for
abbrev pub text_of : Data → List ℕ
text_of value = unwrap_or (as_str value) []

abbrev pub texts_of : Items → List (List ℕ)
texts_of no_items = []
texts_of (item value others) = text_of value ∷ texts_of others

-- All that unfolds when an operation is found by its name, and its paths are looked at.
unfoldable pub naming : Unit {0}
unfolding
    Rattle.ll_members.specs.Slots.spelt Rattle.ll_trace.specs.Operations.operation_named Rattle.ll_trace.specs.Operations.operations
    Rattle.ll_trace.specs.Operations.descriptor_operations Rattle.ll_trace.specs.Operations.path_operations Rattle.ll_trace.specs.Operations.paths_of
    Rattle.ll_trace.specs.Operations.are_spelt Rattle.ll_trace.specs.Members.path_in
naming = tt
