-- A policy, as a line of JSON says it.
-- Source: docs/FORMATS.md, "A policy as JSON"; landlock_create_ruleset(2), landlock_add_rule(2).
use Rattle.std.specs.Prelude.{ℕ, Bool, true, false, List, map, codes, Option, Some, None, ok_or, Result, Ok, Err, if◌then◌else◌}
use Rattle.std.specs.Option.{is_some}
use Rattle.std.specs.Str.{bytes_eq}
use Rattle.serde_json.specs.Data.{Data}
use Rattle.serde_json.specs.Find.{get}
use Rattle.ll_rights.specs.declared.fs.Fs.{Fs}
use Rattle.ll_rights.specs.declared.net.Net.{Net}
use Rattle.ll_rights.specs.Rights as files
use Rattle.ll_rights.specs.Families.{Family, for_files, for_network, no_right}
use Rattle.ll_lines.specs.declared.fault.Cause.{Cause}
use Rattle.ll_lines.specs.declared.fault.Cause.TheVariants.{Field}
use Rattle.ll_lines.specs.Members.{value_at, text_at, text_in, number_at, items_at, ◌>>=◌}
use Rattle.ll_lines.specs.Reading.{Format}
use Rattle.ll_tree.specs.TreeReading.{kind_named}
use Rattle.ll_values.specs.Lists.{fold_items, list_at}
use Rattle.ll_values.specs.Answers.{by_line}
use Rattle.ll_fitting.specs.declared.written.Access.{Access}
use Rattle.ll_fitting.specs.declared.written.Parent.{Parent}
use Rattle.ll_fitting.specs.declared.written.Parent.TheVariants.{There, Missing}
use Rattle.ll_fitting.specs.declared.written.PathRule.{PathRule}
use Rattle.ll_fitting.specs.declared.written.PortRule.{PortRule}
use Rattle.ll_fitting.specs.declared.written.Scopes.{Scopes}
use Rattle.ll_fitting.specs.Written.{Layer}
use Rattle.ll_fitting.specs.Misfits.{misfit}
use Rattle.ll_calling.specs.Groups.{group_of, group_named, group_on_ports}

-- what the words of a member make of what no word makes, one after another
unfoldable pub words_at : {Whole : Type 0} → (Whole → Data → Result Whole Cause) → Whole → List ℕ → Data → Result Whole Cause
words_at more none name value = do
  words ← items_at name value
  fold_items more none words

-- ---- lists of rights: a word is a group, or the name of a right

abbrev pub with_right : {S R : Type 0} → Family S R → Access S → S → Result (Access S) Cause
with_right family access right = if family.has right family.other then Err Field else Ok (record { named = family.united access.named right; grouped = access.grouped })

abbrev pub with_group : {S R : Type 0} → Family S R → Access S → List ℕ → Option S → Result (Access S) Cause
with_group family access word (Some rights) = Ok (record { named = access.named; grouped = family.united access.grouped rights })
with_group family access word None = with_right family access (family.only (family.right_named word))

unfoldable pub with_word : {S R : Type 0} → Family S R → (List ℕ → Option S) → Access S → Data → Result (Access S) Cause
with_word family group access value = do
  word ← text_in value
  with_group family access word (group word)

abbrev pub rights_at : {S R : Type 0} → Family S R → (List ℕ → Option S) → List ℕ → Data → Result (Access S) Cause
rights_at family group name value = words_at (with_word family group) (record { named = no_right family; grouped = no_right family }) name value

abbrev pub access_at : List ℕ → Data → Result (Access Fs) Cause
access_at = rights_at for_files (group_of for_files group_named)

abbrev pub port_access_at : List ℕ → Data → Result (Access Net) Cause
port_access_at = rights_at for_network (group_of for_network group_on_ports)

-- ---- scopes

unfoldable pub with_scope : Scopes → Data → Result Scopes Cause
with_scope scopes value = do
  word ← text_in value
  if bytes_eq word (codes "abstract_unix_socket") then Ok (record { abstract_unix_socket = true; signal = scopes.signal })
      else if bytes_eq word (codes "signal") then Ok (record { abstract_unix_socket = scopes.abstract_unix_socket; signal = true })
      else Err Field

abbrev pub scopes_at : Data → Result Scopes Cause
scopes_at value = words_at with_scope (record { abstract_unix_socket = false; signal = false }) (codes "scoped") value

-- ---- rules

-- a rule on a path
pub record RuleSeen : Type 0 where
  pub rule : PathRule
  pub path : List ℕ

-- what is at the path, if something is
abbrev pub parent_in : Option Data → Result Parent Cause
parent_in None = Ok Missing
parent_in (Some value) = do
  name ← text_in value
  kind ← ok_or (kind_named name) Field
  Ok (There 0 kind)

unfoldable pub parent_at : Data → Result Parent Cause
parent_at value = parent_in (get (codes "kind") value)

-- a rule of an included group names the group
abbrev pub included_in : Option Data → Result Bool Cause
included_in None = Ok false
included_in (Some value) = do
  name ← text_in value
  Ok true

unfoldable pub included_at : Data → Result Bool Cause
included_at value = included_in (get (codes "group") value)

-- all rights of such a rule count as those of a group of rights
unfoldable pub allowed_by : Bool → Access Fs → Access Fs
allowed_by included access = if included then record { named = files.no_right; grouped = files.united access.named access.grouped } else access

unfoldable pub rule_in : Data → Result RuleSeen Cause
rule_in value = do
  access ← access_at (codes "allowed_access") value
  path ← text_at (codes "parent") value
  parent ← parent_at value
  included ← included_at value
  Ok (record { rule = record { allowed = allowed_by included access; parent = parent; included = included }; path = path })

unfoldable pub port_rule_in : Data → Result PortRule Cause
port_rule_in value = do
  access ← port_access_at (codes "allowed_access") value
  port ← number_at (codes "port") value
  Ok (record { allowed = access; port = port })

-- ---- layers

pub record LayerSeen : Type 0 where
  pub handled_files : Access Fs
  pub handled_network : Access Net
  pub rules : List RuleSeen
  pub port_rules : List PortRule
  pub scopes : Scopes

unfoldable pub layer_in : Data → Result LayerSeen Cause
layer_in value = do
  handled_files ← access_at (codes "handled_access_fs") value
  handled_network ← port_access_at (codes "handled_access_net") value
  rules ← list_at (codes "path_beneath") (λ index. rule_in) value
  port_rules ← list_at (codes "net_port") (λ index. port_rule_in) value
  scopes ← scopes_at value
  Ok (record { handled_files = handled_files; handled_network = handled_network; rules = rules; port_rules = port_rules; scopes = scopes })

-- a layer without the texts of the paths
abbrev pub written_in : LayerSeen → Layer
written_in layer = record {
  handled_files = layer.handled_files;
  handled_network = layer.handled_network;
  path_rules = map (λ seen. seen.rule) layer.rules;
  port_rules = layer.port_rules;
  scopes = layer.scopes;
}

-- ---- the policy: the kernel can make of its layers what they say

unfoldable pub if_fit : List LayerSeen → Result (List LayerSeen) Cause
if_fit layers = if is_some (misfit (map written_in layers)) then Err Field else Ok layers

unfoldable pub policy_in : Data → Result (List LayerSeen) Cause
policy_in value = do
  layers ← list_at (codes "layer") (λ index. layer_in) value
  if_fit layers

-- the policy on a line
unfoldable pub policy_on : List ℕ → Result (List LayerSeen) Cause
policy_on line = do
  value ← value_at line
  policy_in value

-- a policy on each line
abbrev pub policy_format : Format (List LayerSeen)
policy_format = by_line policy_on
