-- What a version of the interface leaves of a policy: the rights that it knows, the rules that still grant something, and the layers that still handle something.
-- Source: the kernel's userspace document on Landlock, "Defining and enforcing a security policy", which advises "a best-effort security approach"; landlock_add_rule(2), "ERRORS".
use Rattle.std.specs.Prelude.{ℕ, Bool, not, ◌&&◌, ◌||◌, List, [], ◌∷◌, if◌then◌else◌}
use Rattle.std.specs.List.{flat_map, enumerate_from}
use Rattle.ll_rights.specs.declared.abi.Abi.{Abi}
use Rattle.ll_rights.specs.declared.fs.Fs.{Fs}
use Rattle.ll_rights.specs.declared.net.Net.{Net}
use Rattle.ll_rights.specs.declared.kind.Kind.{Kind}
use Rattle.ll_rights.specs.Rights as files
use Rattle.ll_rights.specs.NetRights as network
use Rattle.ll_rights.specs.Families.{Family, for_files, for_network, knows, common}
use Rattle.ll_tree.specs.Trees.{is_dir}
use Rattle.ll_fitting.specs.declared.written.Access.{Access}
use Rattle.ll_fitting.specs.declared.written.PathRule.{PathRule}
use Rattle.ll_fitting.specs.declared.written.PortRule.{PortRule}
use Rattle.ll_fitting.specs.declared.written.Parent.{Parent}
use Rattle.ll_fitting.specs.declared.written.Parent.TheVariants.{There, Missing}
use Rattle.ll_fitting.specs.declared.fitting.FittedPathRule.{FittedPathRule}
use Rattle.ll_fitting.specs.declared.fitting.FittedPortRule.{FittedPortRule}
use Rattle.ll_fitting.specs.declared.fitting.FittedLayer.{FittedLayer}
use Rattle.ll_fitting.specs.Written.{Layer, listed, listed_for_files, lists}

-- ---- the rights of a rule

-- of the rights that a rule lists, those that its layer handles and the version knows
unfoldable pub left_of : {S R : Type 0} → Family S R → Abi → Access S → S → S
left_of family abi handled rights = family.supported abi (common family rights (listed family handled))

-- the same right by right: a layer that handles a list handles the right, and the version knows it
abbrev pub is_left : {S R : Type 0} → Family S R → Abi → Access S → R → Bool
is_left family abi handled right = lists family handled right && knows family abi right

-- a rule has a right for files among those that its layer handles, whatever a version knows
unfoldable pub is_for_files : Layer → PathRule → Bool
is_for_files layer rule = not (files.is_empty (common for_files (listed_for_files rule.allowed) (listed for_files layer.handled_files)))

-- What counts of a rule on what isn't a directory: of a group, what the object can have. Where a rule of the policy's own has no right for files, all of it counts, and the kernel refuses it.
unfoldable pub counted_on_files : Layer → PathRule → Fs
counted_on_files layer rule = if is_for_files layer rule || rule.included then listed_for_files rule.allowed else listed for_files rule.allowed

-- what a rule asks for on an object of a kind
unfoldable pub rights_on_kind : Abi → Layer → PathRule → Kind → Fs
rights_on_kind abi layer rule kind = left_of for_files abi layer.handled_files (if is_dir kind then listed for_files rule.allowed else counted_on_files layer rule)

-- what it asks for on its parent; a rule of an included group is left out where its object is missing
abbrev pub rights_at : Abi → Layer → PathRule → Parent → Fs
rights_at abi layer rule (There object kind) = rights_on_kind abi layer rule kind
rights_at abi layer rule Missing = if rule.included then files.no_right else left_of for_files abi layer.handled_files (listed for_files rule.allowed)

-- what a rule asks for on its port
unfoldable pub rights_on_port : Abi → Layer → PortRule → Net
rights_on_port abi layer rule = left_of for_network abi layer.handled_network (listed for_network rule.allowed)

-- ---- the rules and layers that are left

abbrev pub left_rule : ℕ → Parent → Fs → List FittedPathRule
left_rule index parent rights = if files.is_empty rights then [] else record { rule = index; parent = parent; rights = rights } ∷ []

abbrev pub left_port_rule : ℕ → ℕ → Net → List FittedPortRule
left_port_rule index port rights = if network.is_empty rights then [] else record { rule = index; port = port; rights = rights } ∷ []

-- a rule with what it asks for, if it asks for something
unfoldable pub fitted_path_rule : Abi → Layer → ℕ × PathRule → List FittedPathRule
fitted_path_rule abi layer numbered = left_rule numbered.0 numbered.1.parent (rights_at abi layer numbered.1 numbered.1.parent)

unfoldable pub fitted_port_rule : Abi → Layer → ℕ × PortRule → List FittedPortRule
fitted_port_rule abi layer numbered = left_port_rule numbered.0 numbered.1.port (rights_on_port abi layer numbered.1)

unfoldable pub fitted_path_rules : Abi → Layer → List FittedPathRule
fitted_path_rules abi layer = flat_map (fitted_path_rule abi layer) (enumerate_from 0 layer.path_rules)

unfoldable pub fitted_port_rules : Abi → Layer → List FittedPortRule
fitted_port_rules abi layer = flat_map (fitted_port_rule abi layer) (enumerate_from 0 layer.port_rules)

-- what a layer handles at a version
unfoldable pub handled_at : {S R : Type 0} → Family S R → Abi → Access S → S
handled_at family abi handled = family.supported abi (listed family handled)

abbrev pub handled_files : Abi → Layer → Fs
handled_files abi layer = handled_at for_files abi layer.handled_files

abbrev pub handled_network : Abi → Layer → Net
handled_network abi layer = handled_at for_network abi layer.handled_network

-- a layer as it is at a version: its index in the policy, what it handles, and its rules
pub record Fitted : Type 0 where
  pub layer : ℕ
  pub files : Fs
  pub network : Net
  pub path_rules : List FittedPathRule
  pub port_rules : List FittedPortRule

-- a layer that is left, as the program has it
abbrev pub shown : FittedLayer → Fitted
shown left = record {
  layer = left.layer;
  files = left.files;
  network = left.network;
  path_rules = left.path_rules.items;
  port_rules = left.port_rules.items;
}

abbrev pub fitted_layer : Abi → ℕ → Layer → Fitted
fitted_layer abi index layer = record {
  layer = index;
  files = handled_files abi layer;
  network = handled_network abi layer;
  path_rules = fitted_path_rules abi layer;
  port_rules = fitted_port_rules abi layer;
}

-- a layer is left if it handles a right at the version
unfoldable pub fitted_if_any : Abi → ℕ × Layer → List Fitted
fitted_if_any abi numbered =
    if files.is_empty (handled_files abi numbered.1) && network.is_empty (handled_network abi numbered.1) then [] else fitted_layer abi numbered.0 numbered.1 ∷ []

-- what a version leaves of a policy, the oldest layer first
unfoldable pub fitted : Abi → List Layer → List Fitted
fitted abi layers = flat_map (fitted_if_any abi) (enumerate_from 0 layers)
