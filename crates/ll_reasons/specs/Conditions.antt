-- Why a call fails with an error that no layer gives: one condition for each error of each call, with the names at fault.
-- Source: landlock_create_ruleset(2), landlock_add_rule(2), landlock_restrict_self(2), "ERRORS".
use Rattle.std.specs.Prelude.{ℕ, not, ◌&&◌, List, filter, Option, Some, None, option_and_then, slice_get, if◌then◌else◌}
use Rattle.ll_rights.specs.declared.abi.Abi.{Abi}
use Rattle.ll_rights.specs.declared.fs.Fs.{Fs}
use Rattle.ll_rights.specs.declared.net.Net.{Net}
use Rattle.ll_rights.specs.Abis.{knows_fs}
use Rattle.ll_rights.specs.Rights as files
use Rattle.ll_rights.specs.NetRights as network
use Rattle.ll_rules.specs.declared.errno.Errno.{Errno}
use Rattle.ll_rules.specs.declared.errno.Errno.TheVariants.{Perm, BadFd, TooBig, Inval, NoMsg}
use Rattle.ll_rules.specs.Rulesets.{has_ports}
use Rattle.ll_trace.specs.declared.op.Record.{Record}
use Rattle.ll_trace.specs.declared.op.Op.{Op}
use Rattle.ll_trace.specs.declared.op.Op.TheVariants as calls
use Rattle.ll_reasons.specs.Origins.{Origins}

pub data Condition : Type 0 where
  -- the version doesn't know these rights
  unknown : Abi → List files.FsRight → Condition
  -- the version has no rules for ports
  portless : Abi → Condition
  -- no right is named
  rightless : Condition
  -- the process holds no ruleset under this number
  unheld : ℕ → Condition
  -- the ruleset doesn't handle these rights
  unhandled : List files.FsRight → Condition
  unhandled_on_ports : List network.NetRight → Condition
  -- these rights are for directories, and the path is that of something else
  only_for_directories : List files.FsRight → List ℕ → Condition
  -- a port has 16 bits
  no_port : ℕ → Condition
  -- the process could gain privileges and has none
  unprivileged : Condition
  -- the process has as many layers as there can be
  full : Condition
  -- none of these
  other : Condition

-- ---- what a ruleset handles, as the record that created it says

abbrev pub handled_by : Op → Fs
handled_by (calls.Create rs fs net) = fs
handled_by (calls.CreateEmpty rs) = files.no_right
handled_by op = files.no_right

abbrev pub handled_on_ports_by : Op → Net
handled_on_ports_by (calls.Create rs fs net) = net
handled_on_ports_by (calls.CreateEmpty rs) = network.no_right
handled_on_ports_by op = network.no_right

-- the call of the record at an index, if there is one
abbrev pub call_of : Option Record → Op
call_of None = calls.Exit
call_of (Some r) = r.op

-- what the ruleset handles that a number of the process names
unfoldable pub handled : List Record → Origins → ℕ → Fs
handled records o rs = handled_by (call_of (option_and_then (slice_get records) (o.rulesets rs)))

unfoldable pub handled_on_ports : List Record → Origins → ℕ → Net
handled_on_ports records o rs = handled_on_ports_by (call_of (option_and_then (slice_get records) (o.rulesets rs)))

-- ---- the names at fault, in the order of the table

abbrev pub unknown_rights : Abi → Fs → List files.FsRight
unknown_rights abi wanted = filter (λ right. files.has wanted right && not (knows_fs abi right)) files.all_rights

abbrev pub rights_beyond : Fs → Fs → List files.FsRight
rights_beyond wanted whole = filter (λ right. files.has wanted right && not (files.has whole right)) files.all_rights

abbrev pub port_rights_beyond : Net → Net → List network.NetRight
port_rights_beyond wanted whole = filter (λ right. network.has wanted right && not (network.has whole right)) network.all_rights

abbrev pub directory_rights : Fs → List files.FsRight
directory_rights wanted = filter (λ right. files.has wanted right && not (files.is_file_right right)) files.all_rights

-- ---- the condition of each error of a call

unfoldable pub of_create : Abi → Fs → Errno → Condition
of_create abi fs TooBig = portless abi
of_create abi fs Inval = unknown abi (unknown_rights abi fs)
of_create abi fs NoMsg = rightless
of_create abi fs error = other

-- a rule for files that is invalid has rights that the ruleset doesn't handle, or else rights for directories alone
abbrev pub invalid_on_path : List ℕ → Fs → Fs → Condition
invalid_on_path path fs whole = if files.is_within fs whole then only_for_directories (directory_rights fs) path else unhandled (rights_beyond fs whole)

unfoldable pub of_add_path : ℕ → List ℕ → Fs → Fs → Errno → Condition
of_add_path rs path fs whole BadFd = unheld rs
of_add_path rs path fs whole NoMsg = rightless
of_add_path rs path fs whole Inval = invalid_on_path path fs whole
of_add_path rs path fs whole error = other

-- a rule for a port that is invalid meets a version without ports, or has rights that the ruleset doesn't handle, or else no port
abbrev pub invalid_on_port : Abi → ℕ → Net → Net → Condition
invalid_on_port abi port net whole =
    if not (has_ports abi) then portless abi
    else if network.is_within net whole then no_port port
    else unhandled_on_ports (port_rights_beyond net whole)

unfoldable pub of_add_port : Abi → ℕ → ℕ → Net → Net → Errno → Condition
of_add_port abi rs port net whole BadFd = unheld rs
of_add_port abi rs port net whole NoMsg = rightless
of_add_port abi rs port net whole Inval = invalid_on_port abi port net whole
of_add_port abi rs port net whole error = other

unfoldable pub of_restrict : ℕ → Errno → Condition
of_restrict rs Perm = unprivileged
of_restrict rs BadFd = unheld rs
of_restrict rs TooBig = full
of_restrict rs error = other

-- the condition of an error that a call fails with and no layer gives
unfoldable pub condition : Abi → List Record → Origins → Op → Errno → Condition
condition abi records o (calls.Create rs fs net) error = of_create abi fs error
condition abi records o (calls.AddPath rs path fs) error = of_add_path rs path fs (handled records o rs) error
condition abi records o (calls.AddPort rs port net) error = of_add_port abi rs port net (handled_on_ports records o rs) error
condition abi records o (calls.Restrict rs) error = of_restrict rs error
condition abi records o op error = other
