-- A record or a kind of records, and the answers to it, as JSON, with their explanations.
-- Source: docs/FORMATS.md, "The report", "Explanations" and "Kinds".
use Rattle.std.specs.Prelude.{◌-◌, ℕ, Bool, List, [], ◌∷◌, ◌++◌, get_or, map, Option, Some, None, codes, slice_get, if◌then◌else◌}
use Rattle.json.specs.Json.{Json, string}
use Rattle.json.specs.Print.{print}
use Rattle.json.specs.Token as token
use Rattle.ll_rights.specs.declared.abi.Abi.{Abi}
use Rattle.ll_tree.specs.Trees.{Entry}
use Rattle.ll_trace.specs.declared.op.Record.{Record}
use Rattle.ll_trace.specs.declared.op.Op.{Op}
use Rattle.ll_trace.specs.Operations.{op_name, paths_of}
use Rattle.ll_semantics.specs.declared.answer.Answer.{Answer}
use Rattle.ll_semantics.specs.declared.answer.Answer.TheVariants.{Allowed, Moot, Refused}
use Rattle.ll_semantics.specs.Worlds.{judged}
use Rattle.ll_reasons.specs.Reasons.{Reason}
use Rattle.ll_reasons.specs.Explanations.{Explanation, nothing, objections, failure, mootness, explained_at, origins_at}
use Rattle.ll_report.specs.Calls.{port_of}
use Rattle.ll_report.specs.Lines.{error_name}
use Rattle.ll_report.specs.Spans.{Span, spans_of}
use Rattle.ll_json.specs.Parts.{Named, array_of, named_tokens, object_of, whole}
use Rattle.ll_json.specs.Why.{condition_json, layer_json, reason_json}

-- a version of Landlock's interface, and the records as they are taken under it
pub record Version : Type 0 where
  pub abi : Abi
  pub records : List Record

-- ---- the members of an answer; where explanations aren't shown, the explanation is `nothing`

-- a layer that refuses, by its number alone
abbrev pub bare_layer : ℕ → Json
bare_layer number = object_of ((codes "layer", whole number) ∷ [])

-- the layers that refuse: with all that they object to, where this is explained
unfoldable pub layers_json : List Record → List ℕ → List ℕ → Explanation → Json
layers_json records layers numbers nothing = array_of (map bare_layer numbers)
layers_json records layers numbers (objections said) = array_of (map (layer_json records layers) said)
layers_json records layers numbers (failure condition) = array_of (map bare_layer numbers)
layers_json records layers numbers (mootness reason) = array_of (map bare_layer numbers)

abbrev pub reason_members : Option Reason → List Named
reason_members None = []
reason_members (Some reason) = (codes "why", reason_json reason) ∷ []

-- the condition of a call that fails by no layer, or the reason why the policy isn't asked, where this is explained
unfoldable pub why_members : Explanation → List Named
why_members nothing = []
why_members (objections said) = []
why_members (failure condition) = (codes "why", condition_json condition) ∷ []
why_members (mootness reason) = reason_members reason

unfoldable pub answer_members : List Record → List ℕ → Answer → Explanation → List Named
answer_members records layers Allowed why = (codes "answer", string (codes "allowed")) ∷ []
answer_members records layers Moot why = (codes "answer", string (codes "moot")) ∷ why_members why
answer_members records layers (Refused error numbers) why =
    (codes "answer", string (codes "refused")) ∷ (codes "error", string (error_name error)) ∷ (codes "layers", layers_json records layers numbers why) ∷ why_members why

-- the numbers of neighbouring versions, from the oldest to the newest
abbrev pub versions_json : ℕ → ℕ → Json
versions_json first last = array_of (whole first ∷ whole last ∷ [])

-- what these versions answer
abbrev pub answer_json : ℕ → ℕ → List Named → Json
answer_json first last members = object_of ((codes "abi", versions_json first last) ∷ members)

-- members as they are printed, to the end of their object
abbrev pub members_text : List Named → List ℕ
members_text members = print (named_tokens members ++ token.end_object ∷ [])

-- the versions of a span have the members of the first of them
abbrev pub span_json : ℕ → List (List Named) → Span → Json
span_json oldest said span = answer_json span.first span.last (get_or said (span.first - oldest) [])

-- the answers of neighbouring versions, of which the oldest has this number: those that are printed alike are one
abbrev pub answers_json : ℕ → List (List Named) → List Json
answers_json oldest said = map (span_json oldest said) (spans_of oldest (map members_text said))

-- ---- the record

abbrev pub record_json : Record → List Json → Json
record_json r answers = object_of ((codes "line", whole r.line) ∷ (codes "pid", whole r.pid) ∷ (codes "op", string (op_name r.op)) ∷ (codes "answers", array_of answers) ∷ [])

-- ---- the call

-- its paths, if it has any, and its port, if it has one
abbrev pub paths_members : List (List ℕ) → List Named
paths_members [] = []
paths_members (path ∷ more) = (codes "paths", array_of (map string (path ∷ more))) ∷ []

abbrev pub port_members : Option ℕ → List Named
port_members None = []
port_members (Some port) = (codes "port", whole port) ∷ []

-- what tells of a call: its operation, its paths and its port
abbrev pub call_members : Op → List Named
call_members op = (codes "op", string (op_name op)) ∷ (paths_members (paths_of op) ++ port_members (port_of op))

-- what is said of a record: its call and its answers
abbrev pub said_members : Record → List Json → List Named
said_members r answers = call_members r.op ++ (codes "answers", array_of answers) ∷ []

-- a kind of so many records, by its first record
abbrev pub kind_json : ℕ → Record → List Json → Json
kind_json records r answers = object_of ((codes "records", whole records) ∷ (codes "line", whole r.line) ∷ said_members r answers)

-- ---- what a version answers to the record at an index of its trace

abbrev pub explained_if : Bool → Explanation → Explanation
explained_if explains why = if explains then why else nothing

-- with the explanation, or without
abbrev pub members_with : Bool → List Entry → Version → ℕ → Record → Answer → List Named
members_with explains tree version index r answer =
    answer_members version.records (origins_at tree version.abi version.records index r.process.0).layers answer
    (explained_if explains (explained_at tree version.abi version.records index r answer))

-- where there is a record with an answer
abbrev pub members_of_both : Bool → List Entry → Version → ℕ → Option Record → Option Answer → List Named
members_of_both explains tree version index (Some r) (Some answer) = members_with explains tree version index r answer
members_of_both explains tree version index (Some r) None = []
members_of_both explains tree version index None answer = []

unfoldable pub members_at : Bool → List Entry → Version → ℕ → List Named
members_at explains tree version index =
    members_of_both explains tree version index (slice_get version.records index) (slice_get (judged tree version.abi version.records) index)

-- All that unfolds when answers are printed, with what they say.
unfoldable pub printing : Unit {0}
unfolding
    Rattle.json.specs.Print.print_from Rattle.json.specs.Print.escape_byte Rattle.ll_lines.specs.Paths.text_of
    Rattle.ll_json.specs.Why.objection_json Rattle.ll_json.specs.Why.by_word Rattle.ll_json.specs.Why.condition_json
    Rattle.ll_json.specs.Why.reason_json Rattle.ll_json.specs.Why.layer_json Rattle.ll_json.specs.Records.answer_members
    Rattle.ll_json.specs.Records.layers_json Rattle.ll_json.specs.Records.why_members
printing = tt
