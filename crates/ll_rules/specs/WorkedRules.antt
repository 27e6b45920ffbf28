-- Small rulesets, layers and moves over a small tree.
-- Source: the tree is that of docs/FORMATS.md, "The tree file".
use Rattle.std.specs.Prelude.{ℕ, List, [], ◌∷◌, map, codes}
use Rattle.ll_rights.specs.declared.fs.Fs.{Fs}
use Rattle.ll_rights.specs.declared.net.Net.{Net}
use Rattle.ll_rights.specs.Rights as files
use Rattle.ll_rights.specs.Rights.{FsRight}
use Rattle.ll_rights.specs.NetRights as network
use Rattle.ll_rights.specs.NetRights.{NetRight}
use Rattle.ll_tree.specs.declared.place.NodeId.{NodeId}
use Rattle.ll_lines.specs.Paths.{Path}
use Rattle.ll_tree.specs.WorkedTree.{worked_tree}
use Rattle.ll_rules.specs.declared.moves.Move.{Move}
use Rattle.ll_rules.specs.declared.moves.Target.TheVariants.{New, Over}
use Rattle.ll_rules.specs.declared.moves.How.TheVariants.{Rename, Exchange, Link}
use Rattle.ll_rules.specs.declared.moves.Verdict.{Verdict}
use Rattle.ll_rules.specs.Layers.{RulesOn}
use Rattle.ll_rules.specs.Moves.{move_verdict}

-- ---- paths and nodes of the tree

abbrev pub a : Path
a = codes "a" ∷ []

abbrev pub b : Path
b = codes "b" ∷ []

abbrev pub a_f : Path
a_f = codes "a" ∷ codes "f" ∷ []

abbrev pub b_g : Path
b_g = codes "b" ∷ codes "g" ∷ []

abbrev pub dev_tty : Path
dev_tty = codes "dev" ∷ codes "tty" ∷ []

abbrev pub number : ℕ → NodeId
number n = record { 0 = n }

abbrev pub dir_a : NodeId
dir_a = number 1

abbrev pub dir_b : NodeId
dir_b = number 2

abbrev pub dir_a_s : NodeId
dir_a_s = number 3

abbrev pub file_a_f : NodeId
file_a_f = number 5

abbrev pub file_b_g : NodeId
file_b_g = number 6

-- ---- rights and layers by name

unfoldable pub these : List FsRight → Fs
these [] = files.no_right
these (right ∷ rights) = files.united (files.only right) (these rights)

unfoldable pub these_on_ports : List NetRight → Net
these_on_ports [] = network.no_right
these_on_ports (right ∷ rights) = network.united (network.only right) (these_on_ports rights)

-- what is handled for files, and on which paths what is granted
abbrev pub layer : List FsRight → List (Path × List FsRight) → RulesOn Path
layer handled granted =
    record { handled_files = these handled; handled_network = network.no_right; file_rules = map (λ rule. (rule.0, these rule.1)) granted; port_rules = [] }

-- what is handled for the network, and on which ports what is granted
abbrev pub port_layer : List NetRight → List (ℕ × List NetRight) → RulesOn Path
port_layer handled granted = record {
  handled_files = files.no_right;
  handled_network = these_on_ports handled;
  file_rules = [];
  port_rules = map (λ rule. (rule.0, these_on_ports rule.1)) granted;
}

-- reading, of files and of directories, without a rule
abbrev pub reading : RulesOn Path
reading = layer (files.read_file ∷ files.read_dir ∷ []) []

-- two rules on the way to one file, each with half of what it needs to be read and written
abbrev pub two_rules : RulesOn Path
two_rules = layer (files.read_file ∷ files.write_file ∷ []) ((a, files.write_file ∷ []) ∷ (a_f, files.read_file ∷ []) ∷ [])

-- two layers, each of which grants reading in one directory
abbrev pub two_layers : List (RulesOn Path)
two_layers = layer (files.read_file ∷ []) ((a, files.read_file ∷ []) ∷ []) ∷ layer (files.read_file ∷ []) ((b, files.read_file ∷ []) ∷ []) ∷ []

-- rules on three ports, on one of them two
abbrev pub serving : RulesOn Path
serving =
    port_layer (network.bind_tcp ∷ network.connect_tcp ∷ [])
    ((0, network.bind_tcp ∷ []) ∷ (443, network.connect_tcp ∷ []) ∷ (8080, network.bind_tcp ∷ []) ∷ (8080, network.connect_tcp ∷ []) ∷ [])

-- a layer that grants moving files between two directories, and execution in the second and by some further rules
abbrev pub crossing : List (Path × List FsRight) → RulesOn Path
crossing further =
    layer (files.refer ∷ files.make_reg ∷ files.remove_file ∷ files.execute ∷ [])
    ((a, files.refer ∷ files.make_reg ∷ files.remove_file ∷ []) ∷ (b, files.refer ∷ files.make_reg ∷ files.remove_file ∷ files.execute ∷ []) ∷ further)

-- ---- moves

abbrev pub renamed : NodeId → NodeId → Move
renamed object directory = record { moved = object; target = New directory; how = Rename }

abbrev pub linked : NodeId → NodeId → Move
linked object directory = record { moved = object; target = New directory; how = Link }

abbrev pub exchanged : NodeId → NodeId → Move
exchanged object there = record { moved = object; target = Over there; how = Exchange }

-- what one layer answers a move
abbrev pub answer : RulesOn Path → Move → Verdict
answer only_layer move = move_verdict worked_tree (only_layer ∷ []) move

-- All that unfolds when checks run on worked rules.
unfoldable pub checking : Unit {0}
unfolding
    Rattle.ll_rights.specs.Rights.only Rattle.ll_rights.specs.Rights.united Rattle.ll_rights.specs.Rights.has Rattle.ll_rights.specs.Rights.some_right
    Rattle.ll_rights.specs.Rights.every_right Rattle.ll_rights.specs.Rights.all_rights Rattle.ll_rights.specs.Rights.named_rights
    Rattle.ll_rights.specs.NetRights.only Rattle.ll_rights.specs.NetRights.united Rattle.ll_rights.specs.NetRights.has
    Rattle.ll_rights.specs.NetRights.some_right Rattle.ll_rights.specs.NetRights.every_right Rattle.ll_rights.specs.NetRights.all_rights
    Rattle.ll_lines.specs.Paths.front Rattle.ll_lines.specs.Paths.path_eq Rattle.ll_lines.specs.Paths.is_prefix Rattle.ll_tree.specs.Trees.path_at
    Rattle.ll_tree.specs.Trees.kind_at these these_on_ports Rattle.ll_rules.specs.Layers.granted Rattle.ll_rules.specs.Layers.granted_on_port
    Rattle.ll_rules.specs.Checks.numbers_from Rattle.ll_rules.specs.Moves.move_verdict
checking = tt
