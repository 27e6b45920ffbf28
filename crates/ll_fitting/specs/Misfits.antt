-- What is wrong with the layers of a policy, so that the kernel could not make of them what they say.
-- Source: landlock_create_ruleset(2), landlock_add_rule(2), landlock_restrict_self(2), "ERRORS"; docs/POLICIES.md.
use Rattle.std.specs.Prelude.{ℕ, Bool, not, ◌&&◌, ◌||◌, nat_lt, List, [], ◌∷◌, length, ◌==◌, Option, Some, None, option_map, if◌then◌else◌}
use Rattle.std.specs.List.{enumerate_from}
use Rattle.std.specs.Option.{option_or}
use Rattle.ll_rights.specs.declared.net.TheConstants.{LARGEST_PORT}
use Rattle.ll_rights.specs.Families.{Family, for_files, for_network, common, is_empty, is_within}
use Rattle.ll_fitting.specs.declared.written.Access.{Access}
use Rattle.ll_fitting.specs.declared.written.PathRule.{PathRule}
use Rattle.ll_fitting.specs.declared.written.PortRule.{PortRule}
use Rattle.ll_fitting.specs.declared.written.Scopes.{Scopes}
use Rattle.ll_fitting.specs.declared.policy.TheConstants.{MOST_LAYERS}
use Rattle.ll_fitting.specs.declared.policy.RuleMisfit.{RuleMisfit}
use Rattle.ll_fitting.specs.declared.policy.RuleMisfit.TheVariants.{NotHandled, GrantsNothing, NoPort}
use Rattle.ll_fitting.specs.declared.policy.Misfit.{Misfit}
use Rattle.ll_fitting.specs.declared.policy.Misfit.TheVariants as wrong
use Rattle.ll_fitting.specs.Written.{Layer, listed}

-- the first of some values of which something is told, and what is told of it
unfoldable pub first_of : {X M : Type 0} → (X → Option M) → List X → Option M
first_of tell [] = None
first_of tell (x ∷ xs) = option_or (tell x) (first_of tell xs)

-- a list has a right without a name
abbrev pub has_other : {S R : Type 0} → Family S R → Access S → Bool
has_other family access = family.has (listed family access) family.other

-- all rights that a layer handles have a name
abbrev pub knows_all : Layer → Bool
knows_all layer = not (has_other for_files layer.handled_files) && not (has_other for_network layer.handled_network)

abbrev pub has_scope : Scopes → Bool
has_scope scopes = scopes.abstract_unix_socket || scopes.signal

abbrev pub handles_nothing : Layer → Bool
handles_nothing layer =
    is_empty for_files (listed for_files layer.handled_files) && is_empty for_network (listed for_network layer.handled_network) && not (has_scope layer.scopes)

-- a rule names only what its layer handles, and grants something of it
unfoldable pub rule_misfit : {S R : Type 0} → Family S R → Access S → Access S → Option RuleMisfit
rule_misfit family handled allowed =
    if not (is_within family allowed.named (listed family handled)) then Some NotHandled
    else (if is_empty family (common family (listed family allowed) (listed family handled)) then Some GrantsNothing else None)

abbrev pub path_rule_misfit : Layer → PathRule → Option RuleMisfit
path_rule_misfit layer rule = rule_misfit for_files layer.handled_files rule.allowed

unfoldable pub port_rule_misfit : Layer → PortRule → Option RuleMisfit
port_rule_misfit layer rule =
    option_or (rule_misfit for_network layer.handled_network rule.allowed) (if nat_lt LARGEST_PORT rule.port then Some NoPort else None)

-- what is told of a rule with its index
abbrev pub told_of : {R : Type 0} → (ℕ → RuleMisfit → Misfit) → (R → Option RuleMisfit) → ℕ × R → Option Misfit
told_of told misfit numbered = option_map (told numbered.0) (misfit numbered.1)

-- the first rule of a layer that is wrong
abbrev pub misfit_on_paths : ℕ → Layer → Option Misfit
misfit_on_paths index layer = first_of (told_of (wrong.PathRule index) (path_rule_misfit layer)) (enumerate_from 0 layer.path_rules)

abbrev pub misfit_on_ports : ℕ → Layer → Option Misfit
misfit_on_ports index layer = first_of (told_of (wrong.PortRule index) (port_rule_misfit layer)) (enumerate_from 0 layer.port_rules)

-- what is wrong with a layer: its rules come last, those for files first
unfoldable pub layer_misfit : ℕ × Layer → Option Misfit
layer_misfit numbered =
    if not (knows_all numbered.1) then Some (wrong.UnknownRight numbered.0)
    else (if handles_nothing numbered.1 then Some (wrong.HandlesNothing numbered.0)
    else option_or (misfit_on_paths numbered.0 numbered.1) (misfit_on_ports numbered.0 numbered.1))

abbrev pub misfit_in : List Layer → Option Misfit
misfit_in layers = first_of layer_misfit (enumerate_from 0 layers)

-- what is wrong with a policy: it has 1 to 16 layers, and none of them is wrong
unfoldable pub misfit : List Layer → Option Misfit
misfit layers =
    if length layers == 0 then Some wrong.NoLayer
    else (if nat_lt MOST_LAYERS (length layers) then Some wrong.TooManyLayers
    else misfit_in layers)
