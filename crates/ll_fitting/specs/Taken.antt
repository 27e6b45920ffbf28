-- The rules that the kernel takes, and the layers that a version makes of a policy.
-- Source: landlock_add_rule(2), "ERRORS"; landlock(7), "Filesystem actions".
use Rattle.std.specs.Prelude.{◌≡◌, ℕ, nat_lt, Bool, true, false, not, ◌&&◌, List, [], ◌∷◌, map, Option, None, option_map, find, reverse, All, if◌then◌else◌}
use Rattle.std.specs.List.{flat_map}
use Rattle.ll_rights.specs.declared.abi.Abi.{Abi}
use Rattle.ll_rights.specs.declared.fs.Fs.{Fs}
use Rattle.ll_rights.specs.declared.net.TheConstants.{LARGEST_PORT}
use Rattle.ll_rights.specs.Rights as files
use Rattle.ll_rights.specs.NetRights as network
use Rattle.ll_tree.specs.Trees.{is_dir}
use Rattle.ll_rules.specs.Layers.{RulesOn}
use Rattle.ll_rules.specs.Rulesets.{are_file_rights, create_fault, has_ports}
use Rattle.ll_fitting.specs.declared.written.Parent.{Parent}
use Rattle.ll_fitting.specs.declared.written.Parent.TheVariants.{There, Missing}
use Rattle.ll_fitting.specs.declared.fitting.FittedPathRule.{FittedPathRule}
use Rattle.ll_fitting.specs.declared.refusing.RefusedRule.{RefusedRule}
use Rattle.ll_fitting.specs.Written.{Layer}
use Rattle.ll_fitting.specs.Fitting.{Fitted, fitted}
use Rattle.ll_fitting.specs.Misfits.{first_of}

-- the kernel refuses a rule on what isn't a directory, if some right of it applies to directories alone
abbrev pub is_refused_on : Parent → Fs → Bool
is_refused_on (There object kind) rights = not (is_dir kind) && not (are_file_rights rights)
is_refused_on Missing rights = false

unfoldable pub is_refused : FittedPathRule → Bool
is_refused rule = is_refused_on rule.parent rule.rights

-- what a rule grants: nothing, where its object is missing or the kernel refuses it
abbrev pub granted_on : Parent → Fs → List (ℕ × Fs)
granted_on (There object kind) rights = if is_refused_on (There object kind) rights then [] else (object, rights) ∷ []
granted_on Missing rights = []

unfoldable pub granted_by : FittedPathRule → List (ℕ × Fs)
granted_by rule = granted_on rule.parent rule.rights

-- a layer with its rules on objects and on ports, rule for rule, the newest first
unfoldable pub rules_of : Fitted → RulesOn ℕ
rules_of left = record {
  handled_files = left.files;
  handled_network = left.network;
  file_rules = reverse (flat_map granted_by left.path_rules);
  port_rules = reverse (map (λ rule. (rule.port, rule.rights)) left.port_rules);
}

-- the layers that a policy is at a version, the oldest first
unfoldable pub layers_of : Abi → List Layer → List (RulesOn ℕ)
layers_of abi layers = map rules_of (fitted abi layers)

-- ---- the first rule that the kernel refuses, by the indices of its layer and of the rule in it

abbrev pub refused_in : Fitted → Option RefusedRule
refused_in left = option_map (λ rule. record { layer = left.layer; rule = rule.rule }) (find is_refused left.path_rules)

abbrev pub first_refused : List Fitted → Option RefusedRule
first_refused layers = first_of refused_in layers

-- ---- what the kernel takes

-- The kernel creates a ruleset of what is left of a layer, and the ruleset handles all rights of each rule that is left, which
-- are some; a rule for a port is left only at a version that has rules for ports, and its number is a TCP port.
pub record IsValid (abi : Abi) (left : Fitted) : Type 0 where
  pub created : create_fault abi left.files left.network ≡ None
  pub paths : All (λ rule. (files.is_empty rule.rights ≡ false) × (files.is_within rule.rights left.files ≡ true)) left.path_rules
  pub ports : All (λ rule. (has_ports abi ≡ true) × (network.is_empty rule.rights ≡ false) × (network.is_within rule.rights left.network ≡ true) × (nat_lt LARGEST_PORT rule.port ≡ false)) left.port_rules
