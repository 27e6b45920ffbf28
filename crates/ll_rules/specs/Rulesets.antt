-- What creating a ruleset and adding rules to it answers.
-- Source: landlock_create_ruleset(2), landlock_add_rule(2), "ERRORS"; where two errors meet, docs/DECISIONS.md says which comes first.
use Rattle.std.specs.Prelude.{ℕ, Bool, not, ◌&&◌, ◌||◌, nat_le, nat_lt, List, Option, Some, None, if◌then◌else◌}
use Rattle.ll_rights.specs.declared.net.TheConstants.{LARGEST_PORT}
use Rattle.ll_rights.specs.declared.abi.Abi.{Abi}
use Rattle.ll_rights.specs.declared.fs.Fs.{Fs}
use Rattle.ll_rights.specs.declared.net.Net.{Net}
use Rattle.ll_rights.specs.Abis.{number_of, knows_fs, knows_net}
use Rattle.ll_rights.specs.Rights as files
use Rattle.ll_rights.specs.NetRights as network
use Rattle.ll_tree.specs.declared.place.Place.{Place}
use Rattle.ll_tree.specs.declared.place.Place.TheVariants.{Node, Gap, Nowhere}
use Rattle.ll_lines.specs.Paths.{Path}
use Rattle.ll_tree.specs.Trees.{Entry, path_at, kind_at, is_dir}
use Rattle.ll_rules.specs.declared.errno.Errno.{Errno}
use Rattle.ll_rules.specs.declared.errno.Errno.TheVariants.{Inval, TooBig, NoMsg}
use Rattle.ll_rules.specs.Layers.{RulesOn, with_file_rule}

-- whether a version has rules for ports
abbrev pub has_ports : Abi → Bool
has_ports abi = nat_le 4 (number_of abi)

-- whether a version knows each right of two sets
abbrev pub knows_all : Abi → Fs → Net → Bool
knows_all abi handled_files handled_network =
    files.every_right (λ right. not (files.has handled_files right) || knows_fs abi right) && network.every_right (λ right. not (network.has handled_network right) || knows_net abi right)

-- Why a ruleset isn't created: rights for the network make the longer structure, which older versions refuse first.
abbrev pub create_fault : Abi → Fs → Net → Option Errno
create_fault abi handled_files handled_network =
    if not (network.is_empty handled_network) && not (has_ports abi) then Some TooBig
    else (if not (knows_all abi handled_files handled_network) then Some Inval
    else (if files.is_empty handled_files && network.is_empty handled_network then Some NoMsg else None))

-- ---- rules

-- Why a rule isn't added where there is memory for it: the call fails, or there is no object for it.
pub data RuleRefusal : Type 0 where
  with_error : Errno → RuleRefusal
  without_object : RuleRefusal

-- ---- rules for files

-- whether each right of a set applies to what isn't a directory
abbrev pub are_file_rights : Fs → Bool
are_file_rights wanted = files.every_right (λ right. not (files.has wanted right) || files.is_file_right right)

-- a rule needs an object, and one that isn't a directory has file rights alone
abbrev pub place_refusal : List Entry → Place → Fs → Option RuleRefusal
place_refusal tree (Node node) wanted = if not (is_dir (kind_at tree node)) && not (are_file_rights wanted) then Some (with_error Inval) else None
place_refusal tree (Gap node) wanted = Some without_object
place_refusal tree Nowhere wanted = Some without_object

-- why a rule for files is refused
abbrev pub add_path_refusal : {P : Type 0} → List Entry → RulesOn P → Place → Fs → Option RuleRefusal
add_path_refusal tree rules place wanted =
    if files.is_empty wanted then Some (with_error NoMsg)
    else (if not (files.is_within wanted rules.handled_files) then Some (with_error Inval) else place_refusal tree place wanted)

-- one rule more, on the path of the node that a place names
abbrev pub with_rule_at : List Entry → RulesOn Path → Place → Fs → RulesOn Path
with_rule_at tree rules (Node node) granted = with_file_rule rules (path_at tree node) granted
with_rule_at tree rules (Gap node) granted = rules
with_rule_at tree rules Nowhere granted = rules

-- ---- rules for ports

-- why a rule for a port is refused; a port has 16 bits
abbrev pub add_port_refusal : {P : Type 0} → Abi → RulesOn P → ℕ → Net → Option RuleRefusal
add_port_refusal abi rules port wanted =
    if not (has_ports abi) then Some (with_error Inval)
    else (if network.is_empty wanted then Some (with_error NoMsg)
    else (if not (network.is_within wanted rules.handled_network) then Some (with_error Inval)
    else (if nat_lt LARGEST_PORT port then Some (with_error Inval) else None)))
