-- What each condition of an error without layers says of the call, the version, and the rulesets and state of its process.
-- Source: landlock_create_ruleset(2), landlock_add_rule(2), landlock_restrict_self(2), "ERRORS".
use Rattle.std.specs.Prelude.{◌≡◌, Bool, true, false, not, ◌&&◌, List, [], ◌∷◌, length, Option, Some, None, nat_le, nat_lt}
use Rattle.std.specs.List.{list_any}
use Rattle.ll_rights.specs.declared.net.TheConstants.{LARGEST_PORT}
use Rattle.ll_rights.specs.declared.abi.Abi.{Abi}
use Rattle.ll_rights.specs.declared.fs.Fs.{Fs}
use Rattle.ll_rights.specs.declared.net.Net.{Net}
use Rattle.ll_rights.specs.Abis.{knows_fs}
use Rattle.ll_rights.specs.Rights as files
use Rattle.ll_rights.specs.NetRights as network
use Rattle.ll_rules.specs.declared.domain.TheConstants.{MOST_LAYERS}
use Rattle.ll_rules.specs.Rulesets.{has_ports, knows_all, are_file_rights}
use Rattle.ll_trace.specs.declared.op.Op.{Op}
use Rattle.ll_trace.specs.declared.op.Op.TheVariants as calls
use Rattle.ll_semantics.specs.States.{State, Layer}
use Rattle.ll_semantics.specs.Answers.{named, may_restrict}
unfoldable pub use Rattle.ll_reasons.specs.CallNames.{paths_of, port_of, ruleset_number}
use Rattle.ll_reasons.specs.Conditions.{Condition, unknown, portless, rightless, unheld, unhandled, unhandled_on_ports, only_for_directories, no_port, unprivileged, full, other}

-- the rights that a call names
unfoldable pub files_of : Op → Fs
files_of (calls.Create rs fs net) = fs
files_of (calls.AddPath rs path fs) = fs
files_of op = files.no_right

unfoldable pub ports_of : Op → Net
ports_of (calls.Create rs fs net) = net
ports_of (calls.AddPort rs port net) = net
ports_of op = network.no_right

-- the ruleset that a call adds a rule to
unfoldable pub ruleset_of : List Layer → Op → State → Option Layer
ruleset_of rulesets (calls.AddPath rs path fs) s = named rulesets (s.held rs)
ruleset_of rulesets (calls.AddPort rs port net) s = named rulesets (s.held rs)
ruleset_of rulesets op s = None

-- some rights are just those that pass a test
abbrev pub AreJust : List files.FsRight → (files.FsRight → Bool) → Type 0
AreJust rights test = (right : files.FsRight) → list_any (files.is_right right) rights ≡ test right

abbrev pub AreJustOnPorts : List network.NetRight → (network.NetRight → Bool) → Type 0
AreJustOnPorts rights test = (right : network.NetRight) → list_any (network.is_right right) rights ≡ test right

unfoldable pub IsCondition : Abi → List Layer → State → Op → Condition → Type 0
IsCondition abi rulesets s op (unknown version rights) =
    (version ≡ abi) × AreJust rights (λ right. files.has (files_of op) right && not (knows_fs abi right)) × (knows_all abi (files_of op) (ports_of op) ≡ false)
IsCondition abi rulesets s op (portless version) = (version ≡ abi) × (has_ports abi ≡ false)
IsCondition abi rulesets s op rightless = (files.is_empty (files_of op) && network.is_empty (ports_of op)) ≡ true
IsCondition abi rulesets s op (unheld rs) = (ruleset_number op ≡ Some rs) × (named rulesets (s.held rs) ≡ None)
IsCondition abi rulesets s op (unhandled rights) =
    (rules : Layer) × (ruleset_of rulesets op s ≡ Some rules) × AreJust rights (λ right. files.has (files_of op) right && not (files.has rules.handled_files right)) × (files.is_within (files_of op) rules.handled_files ≡ false)
IsCondition abi rulesets s op (unhandled_on_ports rights) =
    (rules : Layer) × (ruleset_of rulesets op s ≡ Some rules) × AreJustOnPorts rights (λ right. network.has (ports_of op) right && not (network.has rules.handled_network right)) × (network.is_within (ports_of op) rules.handled_network ≡ false)
IsCondition abi rulesets s op (only_for_directories rights path) =
    (paths_of op ≡ path ∷ []) × AreJust rights (λ right. files.has (files_of op) right && not (files.is_file_right right)) × (are_file_rights (files_of op) ≡ false)
IsCondition abi rulesets s op (no_port port) = (port_of op ≡ Some port) × (nat_lt LARGEST_PORT port ≡ true)
IsCondition abi rulesets s op unprivileged = may_restrict s ≡ false
IsCondition abi rulesets s op full = nat_le MOST_LAYERS (length s.domain) ≡ true
IsCondition abi rulesets s op other = ⊥
