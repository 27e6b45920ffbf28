-- Small policies, and what versions of the interface leave of them.
-- Source: docs/POLICIES.md, and the policy of README.md.
use Rattle.std.specs.Prelude.{ℕ, List, [], ◌∷◌, true, false}
use Rattle.ll_rights.specs.declared.kind.Kind.TheVariants.{Dir, Reg}
use Rattle.ll_rights.specs.Rights.{FsRight, execute, write_file, read_file, read_dir, remove_dir, remove_file, make_char, make_dir, make_reg, make_sock, make_fifo, make_block, make_sym, named_rights}
use Rattle.ll_rights.specs.NetRights.{NetRight, connect_tcp}
use Rattle.ll_rules.specs.WorkedRules.{these, these_on_ports}
use Rattle.ll_rights.specs.declared.fs.Fs.{Fs}
use Rattle.ll_rights.specs.declared.net.Net.{Net}
use Rattle.ll_fitting.specs.declared.written.Access.{Access}
use Rattle.ll_fitting.specs.declared.written.PathRule.{PathRule}
use Rattle.ll_fitting.specs.declared.written.PortRule.{PortRule}
use Rattle.ll_fitting.specs.declared.written.Scopes.{Scopes}
use Rattle.ll_fitting.specs.declared.written.Parent.{Parent}
use Rattle.ll_fitting.specs.declared.written.Parent.TheVariants.{There}
use Rattle.ll_fitting.specs.declared.fitting.FittedPathRule.{FittedPathRule}
use Rattle.ll_fitting.specs.declared.fitting.FittedPortRule.{FittedPortRule}
use Rattle.ll_fitting.specs.Written.{Layer}
use Rattle.ll_fitting.specs.Fitting.{Fitted}

-- ---- lists of rights

abbrev pub lists : List FsRight → List FsRight → Access Fs
lists named grouped = record { named = these named; grouped = these grouped }

abbrev pub lists_on_ports : List NetRight → Access Net
lists_on_ports named = record { named = these_on_ports named; grouped = these_on_ports [] }

-- the groups `read` and `execute`
abbrev pub reading : List FsRight
reading = read_file ∷ read_dir ∷ execute ∷ []

-- ---- rules and layers

abbrev pub on : Access Fs → Parent → PathRule
on allowed parent = record { allowed = allowed; parent = parent; included = false }

abbrev pub of_group : Access Fs → Parent → PathRule
of_group allowed parent = record { allowed = allowed; parent = parent; included = true }

abbrev pub no_scopes : Scopes
no_scopes = record { abstract_unix_socket = false; signal = false }

abbrev pub layer : Access Fs → Access Net → List PathRule → List PortRule → Layer
layer handled handled_on_ports path_rules port_rules =
    record { handled_files = handled; handled_network = handled_on_ports; path_rules = path_rules; port_rules = port_rules; scopes = no_scopes }

-- a layer that handles all rights for files, by the group
abbrev pub handles_all : List PathRule → Layer
handles_all path_rules = layer (lists [] named_rights) (lists_on_ports []) path_rules []

-- a policy of one layer that handles some rights for files by their names
abbrev pub handling : List FsRight → List PathRule → List Layer
handling handled path_rules = layer (lists handled []) (lists_on_ports []) path_rules [] ∷ []

-- a layer that handles connecting alone
abbrev pub connecting : List PortRule → Layer
connecting port_rules = layer (lists [] []) (lists_on_ports (connect_tcp ∷ [])) [] port_rules

-- a layer that handles nothing and has a scope
abbrev pub scope_alone : Layer
scope_alone = record (layer (lists [] []) (lists_on_ports []) [] []) { scopes = record { abstract_unix_socket = false; signal = true } }

abbrev pub directory : ℕ → Parent
directory object = There object Dir

abbrev pub file : ℕ → Parent
file object = There object Reg

-- the policy of FORMATS, where /usr is object 1 and /lib is object 2
abbrev pub formats : List Layer
formats =
    layer (lists [] named_rights) (lists_on_ports (connect_tcp ∷ [])) (on (lists [] reading) (directory 1) ∷ on (lists [] reading) (directory 2) ∷ [])
    (record { allowed = lists_on_ports (connect_tcp ∷ []); port = 443 } ∷ []) ∷ []

-- ---- what is left

abbrev pub grants : ℕ → Parent → List FsRight → FittedPathRule
grants rule parent rights = record { rule = rule; parent = parent; rights = these rights }

abbrev pub grants_on_port : ℕ → ℕ → List NetRight → FittedPortRule
grants_on_port rule port rights = record { rule = rule; port = port; rights = these_on_ports rights }

abbrev pub left : ℕ → List FsRight → List NetRight → List FittedPathRule → List FittedPortRule → Fitted
left index handled handled_on_ports path_rules port_rules = record {
  layer = index;
  files = these handled;
  network = these_on_ports handled_on_ports;
  path_rules = path_rules;
  port_rules = port_rules;
}

-- a first layer that is left, without rules for ports
abbrev pub left_handling : List FsRight → List FittedPathRule → List Fitted
left_handling handled path_rules = left 0 handled [] path_rules [] ∷ []

-- what version 1 knows of all rights
abbrev pub first_rights : List FsRight
first_rights =
    execute ∷ write_file ∷ read_file ∷ read_dir ∷ remove_dir ∷ remove_file ∷ make_char ∷ make_dir ∷ make_reg ∷ make_sock ∷ make_fifo ∷ make_block ∷ make_sym ∷ []

-- All that unfolds when worked policies are fitted.
unfoldable pub fitting : Unit {0}
unfolding
    Rattle.ll_rules.specs.WorkedRules.checking Rattle.ll_rights.specs.Supported.supported_fs Rattle.ll_rights.specs.Supported.supported_net
    Rattle.ll_fitting.specs.Fitting.left_of Rattle.ll_fitting.specs.Fitting.is_for_files Rattle.ll_fitting.specs.Fitting.counted_on_files
    Rattle.ll_fitting.specs.Fitting.rights_on_kind
    Rattle.ll_fitting.specs.Fitting.rights_on_port Rattle.ll_fitting.specs.Fitting.fitted_path_rule Rattle.ll_fitting.specs.Fitting.fitted_port_rule
    Rattle.ll_fitting.specs.Fitting.fitted_path_rules Rattle.ll_fitting.specs.Fitting.fitted_port_rules Rattle.ll_fitting.specs.Fitting.handled_at
    Rattle.ll_fitting.specs.Fitting.fitted_if_any Rattle.ll_fitting.specs.Fitting.fitted
    Rattle.ll_fitting.specs.Taken.is_refused Rattle.ll_fitting.specs.Misfits.first_of
    Rattle.ll_fitting.specs.Misfits.rule_misfit Rattle.ll_fitting.specs.Misfits.port_rule_misfit Rattle.ll_fitting.specs.Misfits.layer_misfit
    Rattle.ll_fitting.specs.Misfits.misfit
fitting = tt
