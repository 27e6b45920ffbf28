-- The faults by which a call that adds a rule tells why it didn't.
-- Source: landlock_add_rule(2), "ERRORS".
use Rattle.std.specs.Prelude.{ℕ, List, Option, option_map}
use Rattle.ll_rights.specs.declared.abi.Abi.{Abi}
use Rattle.ll_rights.specs.declared.fs.Fs.{Fs}
use Rattle.ll_rights.specs.declared.net.Net.{Net}
use Rattle.ll_tree.specs.declared.place.Place.{Place}
use Rattle.ll_tree.specs.Trees.{Entry}
use Rattle.ll_rules.specs.declared.errno.RuleFault.{RuleFault}
use Rattle.ll_rules.specs.declared.errno.RuleFault.TheVariants as faults
use Rattle.ll_rules.specs.Layers.{RulesOn}
use Rattle.ll_rules.specs.Rulesets.{RuleRefusal, add_path_refusal, add_port_refusal, with_error, without_object}

-- the fault that tells a refusal; out of memory tells none
abbrev pub fault_of : RuleRefusal → RuleFault
fault_of (with_error error) = faults.Errno error
fault_of without_object = faults.Moot

-- the fault of a rule for files, where there is memory for it
abbrev pub add_path_fault : {P : Type 0} → List Entry → RulesOn P → Place → Fs → Option RuleFault
add_path_fault tree rules place wanted = option_map fault_of (add_path_refusal tree rules place wanted)

-- the fault of a rule for a port, where there is memory for it
abbrev pub add_port_fault : {P : Type 0} → Abi → RulesOn P → ℕ → Net → Option RuleFault
add_port_fault abi rules port wanted = option_map fault_of (add_port_refusal abi rules port wanted)
