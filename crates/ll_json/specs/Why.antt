-- Explanations as JSON: what layers object to, why a call fails by no layer, and why the policy isn't asked.
-- Source: docs/FORMATS.md, "Explanations"; numbers and kinds have the names of "The trace file" and "The tree file".
use Rattle.std.specs.Prelude.{ℕ, ◌-◌, List, [], ◌∷◌, map, true, Option, option_and_then, slice_get, codes}
use Rattle.json.specs.Json.{Json, string, boolean}
use Rattle.ll_rights.specs.declared.kind.Kind.{Kind}
use Rattle.ll_rights.specs.declared.kind.Kind.TheVariants.{Dir, Reg, Sym, Char, Block, Fifo, Sock}
use Rattle.ll_rights.specs.Abis.{number_of}
use Rattle.ll_rights.specs.Rights as files
use Rattle.ll_rights.specs.NetRights as network
use Rattle.ll_lines.specs.Paths.{Path, text_of}
use Rattle.ll_trace.specs.declared.op.Record.{Record}
use Rattle.ll_reasons.specs.Objections.{Objection, missing, closed, gained, mounting, kept}
use Rattle.ll_reasons.specs.Conditions as conditions
use Rattle.ll_reasons.specs.Conditions.{Condition}
use Rattle.ll_reasons.specs.Reasons as reasons
use Rattle.ll_reasons.specs.Reasons.{Reason}
use Rattle.ll_explain.specs.Words.{line_of, path_opened, words_of}
use Rattle.ll_json.specs.Parts.{Named, array_of, object_of, whole}

abbrev pub path_json : Path → Json
path_json path = string (text_of path)

-- words, and those for rights, which are those of the report's text
abbrev pub words_json : List (List ℕ) → Json
words_json words = array_of (map string words)

abbrev pub rights_json : List files.FsRight → Json
rights_json rights = words_json (words_of files.name_of rights)

abbrev pub port_rights_json : List network.NetRight → Json
port_rights_json rights = words_json (words_of network.name_of rights)

-- ---- what layers object to

-- What a descriptor's file lacked is missing on the path that the record at an index opened, whose line is told.
unfoldable pub objection_json : List Record → Objection → Json
objection_json records (missing rights path) = object_of ((codes "missing", rights_json rights) ∷ (codes "on", path_json path) ∷ [])
objection_json records (closed rights port) = object_of ((codes "closed", port_rights_json rights) ∷ (codes "port", whole port) ∷ [])
objection_json records (gained object rights directory) = object_of ((codes "gains", rights_json rights) ∷ (codes "object", path_json object) ∷ (codes "in", path_json directory) ∷ [])
objection_json records mounting = object_of ((codes "mounting", boolean true) ∷ [])
objection_json records (kept right index) =
    object_of ((codes "missing", rights_json (right ∷ [])) ∷ (codes "on", string (path_opened (slice_get records index))) ∷ (codes "opened", whole (line_of (slice_get records index))) ∷ [])

-- all that a layer objects to, with its number and the line of the record that made it
abbrev pub layer_with : List Record → Option ℕ → ℕ → List Objection → Json
layer_with records made number objections =
    object_of ((codes "layer", whole number) ∷ (codes "line", whole (line_of (option_and_then (slice_get records) made))) ∷ (codes "objections", array_of (map (objection_json records) objections)) ∷ [])

-- where the layers of the process were made by the records at these indices
unfoldable pub layer_json : List Record → List ℕ → ℕ × List Objection → Json
layer_json records layers said = layer_with records (slice_get layers (said.0 - 1)) said.0 said.1

-- an object that begins with a member whose value is a word
unfoldable pub by_word : List ℕ → List ℕ → List Named → Json
by_word name word more = object_of ((name, string word) ∷ more)

-- ---- why a call fails by no layer

-- the condition by its word, and what it names
abbrev pub by_condition : List ℕ → List Named → Json
by_condition = by_word (codes "condition")

unfoldable pub condition_json : Condition → Json
condition_json (conditions.unknown abi rights) = by_condition (codes "unknown") ((codes "abi", whole (number_of abi)) ∷ (codes "rights", rights_json rights) ∷ [])
condition_json (conditions.portless abi) = by_condition (codes "portless") ((codes "abi", whole (number_of abi)) ∷ [])
condition_json conditions.rightless = by_condition (codes "rightless") []
condition_json (conditions.unheld rs) = by_condition (codes "unheld") ((codes "rs", whole rs) ∷ [])
condition_json (conditions.unhandled rights) = by_condition (codes "unhandled") ((codes "rights", rights_json rights) ∷ [])
condition_json (conditions.unhandled_on_ports rights) = by_condition (codes "unhandled_on_ports") ((codes "rights", port_rights_json rights) ∷ [])
condition_json (conditions.only_for_directories rights path) = by_condition (codes "only_for_directories") ((codes "rights", rights_json rights) ∷ (codes "path", string path) ∷ [])
condition_json (conditions.no_port port) = by_condition (codes "no_port") ((codes "port", whole port) ∷ [])
condition_json conditions.unprivileged = by_condition (codes "unprivileged") []
condition_json conditions.full = by_condition (codes "full") []
condition_json conditions.other = by_condition (codes "other") []

-- ---- why the policy isn't asked

-- the kinds by their names in a tree file
abbrev pub kind_name : Kind → List ℕ
kind_name Dir = codes "dir"
kind_name Reg = codes "reg"
kind_name Sym = codes "sym"
kind_name Char = codes "char"
kind_name Block = codes "block"
kind_name Fifo = codes "fifo"
kind_name Sock = codes "sock"

-- the reason by its word, and what it names
abbrev pub by_reason : List ℕ → List Named → Json
by_reason = by_word (codes "reason")

abbrev pub from_to : Path → Path → List Named
from_to from to = (codes "from", path_json from) ∷ (codes "to", path_json to) ∷ []

unfoldable pub reason_json : Reason → Json
reason_json (reasons.absent path) = by_reason (codes "absent") ((codes "path", path_json path) ∷ [])
reason_json (reasons.no_directory path) = by_reason (codes "no_directory") ((codes "path", path_json path) ∷ [])
reason_json (reasons.present path) = by_reason (codes "present") ((codes "path", path_json path) ∷ [])
reason_json (reasons.of_kind path kind) = by_reason (codes "of_kind") ((codes "path", path_json path) ∷ (codes "kind", string (kind_name kind)) ∷ [])
reason_json reasons.root = by_reason (codes "root") []
reason_json (reasons.unmoved path) = by_reason (codes "unmoved") ((codes "path", path_json path) ∷ [])
reason_json (reasons.beneath_itself from to) = by_reason (codes "beneath_itself") (from_to from to)
reason_json (reasons.over_itself from to) = by_reason (codes "over_itself") (from_to from to)
reason_json (reasons.mixed from to) = by_reason (codes "mixed") (from_to from to)
reason_json (reasons.open_already fd) = by_reason (codes "open_already") ((codes "fd", whole fd) ∷ [])
reason_json (reasons.unopened fd) = by_reason (codes "unopened") ((codes "fd", whole fd) ∷ [])
reason_json (reasons.not_for_writing fd) = by_reason (codes "not_for_writing") ((codes "fd", whole fd) ∷ [])
reason_json (reasons.held_already rs) = by_reason (codes "held_already") ((codes "rs", whole rs) ∷ [])
reason_json (reasons.unheld rs) = by_reason (codes "unheld") ((codes "rs", whole rs) ∷ [])
reason_json reasons.unsupported = by_reason (codes "unsupported") []
reason_json reasons.unenforced = by_reason (codes "unenforced") []
