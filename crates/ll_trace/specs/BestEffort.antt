-- What a program calls that first asks its kernel for the version of Landlock's interface, and then uses those of its rights that this version supports.
-- Source: landlock(7), "VERSIONS"; the kernel's userspace document on Landlock, "Defining and enforcing a security policy", which advises "a best-effort security approach".
use Rattle.std.specs.Prelude.{◌≡◌, ℕ, List, map, not, ◌&&◌, if◌then◌else◌}
use Rattle.ll_rights.specs.declared.abi.Abi.{Abi}
use Rattle.ll_rights.specs.declared.fs.Fs.{Fs}
use Rattle.ll_rights.specs.declared.net.Net.{Net}
use Rattle.ll_rights.specs.Supported.{supported_fs, supported_net}
use Rattle.ll_rights.specs.Rights as files
use Rattle.ll_rights.specs.NetRights as network
use Rattle.ll_trace.specs.declared.op.Op.{Op}
use Rattle.ll_trace.specs.declared.op.Op.TheVariants as calls
use Rattle.ll_trace.specs.declared.op.Record.{Record}

-- A program that would handle rights of which none is supported goes on as with a ruleset that handles nothing, so that
-- a layer has the same number at every version. One that names no right creates no ruleset at any version.
abbrev pub creates : ℕ → Fs → Net → Fs → Net → Op
creates rs fs net supported supported_on_ports =
    if files.is_empty supported && network.is_empty supported_on_ports && not (files.is_empty fs && network.is_empty net)
    then calls.CreateEmpty rs
    else calls.Create rs supported supported_on_ports

-- A program leaves out a rule of whose rights none is supported. One that grants no right is asked for at every version.
abbrev pub adds_path : ℕ → List ℕ → Fs → Fs → Op
adds_path rs path fs supported =
    if files.is_empty supported && not (files.is_empty fs) then calls.LeaveOutPath path else calls.AddPath rs path supported

abbrev pub adds_port : ℕ → ℕ → Net → Net → Op
adds_port rs port net supported =
    if network.is_empty supported && not (network.is_empty net) then calls.LeaveOutPort else calls.AddPort rs port supported

-- what such a program calls where a record has this
unfoldable pub at_best_effort : Abi → Op → Op
at_best_effort abi (calls.Create rs fs net) = creates rs fs net (supported_fs abi fs) (supported_net abi net)
at_best_effort abi (calls.AddPath rs path fs) = adds_path rs path fs (supported_fs abi fs)
at_best_effort abi (calls.AddPort rs port net) = adds_port rs port net (supported_net abi net)
at_best_effort abi op = op

-- the same of a record, which keeps its line and its process
abbrev pub record_at_best_effort : Abi → Record → Record
record_at_best_effort abi r = record r { op = at_best_effort abi r.op }

-- the same of all records
abbrev pub records_at_best_effort : Abi → List Record → List Record
records_at_best_effort abi records = map (record_at_best_effort abi) records

-- a version supports all rights that a call names
unfoldable pub IsSupported : Abi → Op → Type 0
IsSupported abi (calls.Create rs fs net) = (supported_fs abi fs ≡ fs) × (supported_net abi net ≡ net)
IsSupported abi (calls.AddPath rs path fs) = supported_fs abi fs ≡ fs
IsSupported abi (calls.AddPort rs port net) = supported_net abi net ≡ net
IsSupported abi op = Unit {0}
