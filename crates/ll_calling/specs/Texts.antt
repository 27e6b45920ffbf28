-- Calls, and the tables of rights, as lines of JSON.
-- Source: landaudit-rules(1), "Calls" and "Rights"; docs/FORMATS.md, "The trace file".
use Rattle.std.specs.Prelude.{ℕ, Bool, false, List, [], ◌∷◌, ◌++◌, map, codes, flat_map, slice_get, unwrap_or, option_and_then, option_map, Option, Some, None, if◌then◌else◌}
use Rattle.std.specs.Option.{is_some}
use Rattle.std.specs.Borrow.{Bor}
use Rattle.json.specs.Json.{Json, string, array, Items, no_items, item}
use Rattle.ll_rights.specs.declared.abi.Abi.{Abi}
use Rattle.ll_rights.specs.declared.fs.Fs.{Fs}
use Rattle.ll_rights.specs.declared.net.Net.{Net}
use Rattle.ll_rights.specs.Abis.{all_versions, number_of, knows_fs, knows_net}
use Rattle.ll_rights.specs.Rights as files
use Rattle.ll_rights.specs.NetRights as network
use Rattle.ll_rights.specs.Families.{Family, for_files, for_network, set_of}
use Rattle.ll_values.specs.Texts.{object_of, whole_json, line_of}
use Rattle.ll_fitting.specs.declared.fitting.FittedPathRule.{FittedPathRule}
use Rattle.ll_fitting.specs.declared.fitting.FittedPortRule.{FittedPortRule}
use Rattle.ll_fitting.specs.declared.refusing.RefusedRule.{RefusedRule}
use Rattle.ll_fitting.specs.Fitting.{Fitted, fitted}
use Rattle.ll_fitting.specs.Taken.{first_refused}
use Rattle.ll_fitting.specs.Written.{file_rights}
use Rattle.ll_enforcing.specs.declared.calls.Call.{Call}
use Rattle.ll_enforcing.specs.declared.calls.Call.TheVariants as calls
use Rattle.ll_enforcing.specs.Calls.{calls_of}
use Rattle.ll_calling.specs.declared.objects.Shown.{Shown}
use Rattle.ll_calling.specs.declared.objects.Shown.TheVariants as shown
use Rattle.ll_calling.specs.Groups.{group_named, group_on_ports}
use Rattle.ll_calling.specs.PolicyLines.{LayerSeen, written_in}

-- the names of the rights that pass a test
unfoldable pub name_items : {S R : Type 0} → Family S R → (R → Bool) → List R → Items
name_items family test [] = no_items
name_items family test (right ∷ others) = if test right then item (string (family.row right).name) (name_items family test others) else name_items family test others

-- in the order of the table
abbrev pub names_json : {S R : Type 0} → Family S R → (R → Bool) → Json
names_json family test = array (name_items family test family.all_rights)

-- ---- objects of flat members

abbrev pub shown_json : Shown → Json
shown_json (shown.Word text) = string text.now
shown_json (shown.Whole n) = whole_json n
shown_json (shown.Number n) = whole_json n
shown_json (shown.Files set) = names_json for_files (files.has set)
shown_json (shown.Network set) = names_json for_network (network.has set)

abbrev pub named : Bor (List ℕ) × Shown → List ℕ × Json
named member = (member.0.now, shown_json member.1)

-- ---- calls: no process is named, and the ruleset is always number 0

-- the path of a rule, by its layer's index and its own
unfoldable pub path_in : List LayerSeen → ℕ → ℕ → List ℕ
path_in layers layer rule =
    unwrap_or (option_map (λ seen. seen.path) (option_and_then (λ own. slice_get own.rules rule) (slice_get layers layer))) []

abbrev pub op : List ℕ → List ℕ × Json
op name = (codes "op", string name)

abbrev pub of_ruleset : List ℕ × Json
of_ruleset = (codes "rs", whole_json 0)

abbrev pub of_layer : ℕ → List ℕ × Json
of_layer layer = (codes "layer", whole_json layer)

abbrev pub of_rule : ℕ → List ℕ × Json
of_rule rule = (codes "rule", whole_json rule)

abbrev pub create_json : ℕ → Fs → Net → Json
create_json layer handled ports =
    object_of (op (codes "create") ∷ of_ruleset ∷ (codes "fs", names_json for_files (files.has handled)) ∷ (codes "net", names_json for_network (network.has ports)) ∷ of_layer layer ∷ [])

abbrev pub path_json : ℕ → FittedPathRule → List ℕ → Json
path_json layer rule path =
    object_of (op (codes "add_path") ∷ of_ruleset ∷ (codes "path", string path) ∷ (codes "fs", names_json for_files (files.has rule.rights)) ∷ of_layer layer ∷ of_rule rule.rule ∷ [])

abbrev pub port_json : ℕ → FittedPortRule → Json
port_json layer rule =
    object_of (op (codes "add_port") ∷ of_ruleset ∷ (codes "port", whole_json rule.port) ∷ (codes "net", names_json for_network (network.has rule.rights)) ∷ of_layer layer ∷ of_rule rule.rule ∷ [])

abbrev pub ruleset_json : List ℕ → ℕ → Json
ruleset_json name layer = object_of (op name ∷ of_ruleset ∷ of_layer layer ∷ [])

unfoldable pub call_json : List LayerSeen → Call → Json
call_json layers calls.NoNewPrivs = object_of (op (codes "nnp") ∷ [])
call_json layers (calls.CreateRuleset layer handled ports) = create_json layer handled ports
call_json layers (calls.AddPath layer rule) = path_json layer rule (path_in layers layer rule.rule)
call_json layers (calls.AddPort layer rule) = port_json layer rule
call_json layers (calls.RestrictSelf layer) = ruleset_json (codes "restrict") layer
call_json layers (calls.CloseRuleset layer) = ruleset_json (codes "close_rs") layer

-- the first rule that the kernel refuses, if it refuses one
abbrev pub refusal_line : Option RefusedRule → List ℕ
refusal_line None = []
refusal_line (Some refused) = line_of (object_of ((codes "refused", string (codes "EINVAL")) ∷ of_layer refused.layer ∷ of_rule refused.rule ∷ []))

-- ---- a policy at a version

abbrev pub left_at : Abi → List LayerSeen → List Fitted
left_at abi layers = fitted abi (map written_in layers)

unfoldable pub lines_at : Abi → List LayerSeen → List ℕ
lines_at abi layers =
    flat_map (λ call. line_of (call_json layers call)) (calls_of (left_at abi layers)) ++ refusal_line (first_refused (left_at abi layers))

abbrev pub is_refused_at : Abi → List LayerSeen → Bool
is_refused_at abi layers = is_some (first_refused (left_at abi layers))

-- ---- the tables of rights: what each version knows, what each group stands for, and what applies to what is no directory

abbrev pub abi_line : Abi → List ℕ
abi_line abi = line_of (object_of ((codes "abi", whole_json (number_of abi)) ∷ (codes "fs", names_json for_files (knows_fs abi)) ∷ (codes "net", names_json for_network (knows_net abi)) ∷ []))

abbrev pub rights_in : {S R : Type 0} → Family S R → Option (List R) → R → Bool
rights_in family None right = false
rights_in family (Some rights) right = family.has (set_of family rights) right

abbrev pub group_line : List ℕ → List ℕ
group_line name =
    line_of (object_of ((codes "group", string name)
    ∷ (codes "fs", names_json for_files (rights_in for_files (group_named name)))
    ∷ (codes "net", names_json for_network (rights_in for_network (group_on_ports name)))
    ∷ []))

abbrev pub file_line : List ℕ
file_line = line_of (object_of ((codes "of", string (codes "file")) ∷ (codes "fs", names_json for_files (files.has file_rights)) ∷ []))

unfoldable pub tables : List ℕ
tables = flat_map abi_line all_versions ++ flat_map group_line (codes "all" ∷ codes "read" ∷ codes "write" ∷ codes "execute" ∷ []) ++ file_line
