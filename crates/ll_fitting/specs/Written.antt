-- A policy as its author writes it: layers, each with what it handles and its rules.
-- Source: landlock_create_ruleset(2), landlock_add_rule(2); docs/POLICIES.md.
use Rattle.std.specs.Prelude.{Bool, ◌&&◌, ◌||◌, List, filter}
use Rattle.ll_rights.specs.declared.fs.Fs.{Fs}
use Rattle.ll_rights.specs.declared.net.Net.{Net}
use Rattle.ll_rights.specs.Rights as files
use Rattle.ll_rights.specs.Families.{Family, for_files, set_of, common}
use Rattle.ll_fitting.specs.declared.written.Access.{Access}
use Rattle.ll_fitting.specs.declared.written.PathRule.{PathRule}
use Rattle.ll_fitting.specs.declared.written.PortRule.{PortRule}
use Rattle.ll_fitting.specs.declared.written.Scopes.{Scopes}
use Rattle.ll_fitting.specs.declared.written.Layer as code

-- a layer: what it handles, its rules in the order in which they are written, and its scopes
pub record Layer : Type 0 where
  pub handled_files : Access Fs
  pub handled_network : Access Net
  pub path_rules : List PathRule
  pub port_rules : List PortRule
  pub scopes : Scopes

-- a layer as the program has it
abbrev pub written : code.Layer → Layer
written layer = record {
  handled_files = layer.handled_files;
  handled_network = layer.handled_network;
  path_rules = layer.path_rules.items;
  port_rules = layer.port_rules.items;
  scopes = layer.scopes;
}

-- ---- lists of rights

-- all rights of a list
abbrev pub listed : {S R : Type 0} → Family S R → Access S → S
listed family access = family.united access.named access.grouped

-- the same right by right: a list has a right that it names, or that one of its groups stands for
abbrev pub lists : {S R : Type 0} → Family S R → Access S → R → Bool
lists family access right = family.has access.named right || family.has access.grouped right

-- the rights that apply to what isn't a directory
abbrev pub file_rights : Fs
file_rights = set_of for_files (filter files.is_file_right files.named_rights)

-- what a list stands for on what isn't a directory: of a group, those of its rights that apply to such objects
abbrev pub listed_for_files : Access Fs → Fs
listed_for_files access = files.united access.named (common for_files access.grouped file_rights)

abbrev pub lists_for_files : Access Fs → files.FsRight → Bool
lists_for_files access right = files.has access.named right || (files.has access.grouped right && files.is_file_right right)
