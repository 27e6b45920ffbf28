-- What is written of an answer by its explanation as a value.
-- Source: docs/FORMATS.md, "The report" and "Explanations".
use Rattle.std.specs.Prelude.{ℕ, Bool, List, [], ◌∷◌, ◌++◌, codes, map, if◌then◌else◌}
use Rattle.json.specs.Token as token
use Rattle.json.specs.Token.{Token}
use Rattle.json.specs.Tree.{json_tokens}
use Rattle.ll_tree.specs.Trees.{Entry}
use Rattle.ll_rules.specs.LayerNumbers.{is_among}
use Rattle.ll_trace.specs.declared.op.Op.{Op}
use Rattle.ll_trace.specs.declared.op.Record.{Record}
use Rattle.ll_semantics.specs.declared.answer.Answer.{Answer}
use Rattle.ll_semantics.specs.declared.answer.Answer.TheVariants.{Allowed, Moot, Refused}
use Rattle.ll_explanations.specs.Meanings.{explanation_in}
use Rattle.ll_explanations.specs.declared.explanation.Explanation.{Explanation}
use Rattle.ll_explanations.specs.declared.explanation.Explanation.TheVariants.{Nothing, Objections, Failure, Mootness}
use Rattle.ll_reasons.specs.Explanations.{nothing}
use Rattle.ll_explain.specs.Words.{word_for}
use Rattle.ll_report.specs.Lines.{error_name}
use Rattle.ll_json.specs.Layering.{objections_from}
use Rattle.ll_json.specs.Parts.{Named, array_of, named_tokens}
use Rattle.ll_json.specs.Records.{answer_members, bare_layer, why_members}

-- layers by their numbers alone
abbrev pub bare_tokens : List ℕ → List Token
bare_tokens numbers = json_tokens (array_of (map bare_layer numbers))

-- the word for a right of this name, where it is in a set
unfoldable pub word_if : Bool → List ℕ → List Token
word_if is_in name = if is_in then token.string (word_for name) ∷ [] else []

-- one of layers that are told by their numbers, one after another: a layer where it is in a set
unfoldable pub among_tokens : List ℕ → ℕ → List Token
among_tokens numbers number = if is_among number numbers then json_tokens (bare_layer number) else []

-- the layers that refuse: with all that they object to, where this is explained
unfoldable pub layers_tokens : List Entry → List Record → List ℕ → Explanation → List Token
layers_tokens tree records numbers Nothing = bare_tokens numbers
layers_tokens tree records numbers (Objections all) = token.begin_array ∷ (objections_from tree records 0 all ++ token.end_array ∷ [])
layers_tokens tree records numbers (Failure condition) = bare_tokens numbers
layers_tokens tree records numbers (Mootness reason) = bare_tokens numbers

-- why a call fails by no layer, or why the policy isn't asked, where this is explained
abbrev pub why_tokens : List Entry → Op → Explanation → List Token
why_tokens tree op e = named_tokens (why_members (explanation_in tree op e))

unfoldable pub answer_tokens : List Entry → List Record → Op → Answer → Explanation → List Token
answer_tokens tree records op Allowed e = token.key (codes "answer") ∷ token.string (codes "allowed") ∷ []
answer_tokens tree records op Moot e = token.key (codes "answer") ∷ token.string (codes "moot") ∷ why_tokens tree op e
answer_tokens tree records op (Refused error numbers) e =
    token.key (codes "answer") ∷ token.string (codes "refused") ∷ token.key (codes "error") ∷ token.string (error_name error)
    ∷ token.key (codes "layers") ∷ (layers_tokens tree records numbers e ++ why_tokens tree op e)

-- an answer that isn't explained
abbrev pub plain_members : Answer → List Named
plain_members answer = answer_members [] [] answer nothing
