-- Layers with rules on the nodes of a tree, as layers with rules on the paths of these nodes, and the way from a node up
-- to the root.
-- Source: landlock(7), "Landlock rules".
use Rattle.std.specs.Prelude.{ℕ, ◌+◌, ◌<◌, Bool, false, List, map, length, All, Option, Some, None}
use Rattle.std.proofs.Props.{props}
use Rattle.std.specs.Option.{option_map_or}
use Rattle.ll_rights.specs.declared.fs.Fs.{Fs}
use Rattle.ll_rights.specs.Rights.{FsRight}
use Rattle.ll_tree.specs.declared.place.NodeId.{NodeId}
use Rattle.ll_lines.specs.Paths.{Path}
use Rattle.ll_tree.specs.Trees.{Entry, path_at, IsNode}
use Rattle.ll_rules.specs.Layers.{RulesOn, granted}
use Rattle.ll_tree.specs.declared.place.Place.{Place}
use Rattle.ll_tree.specs.declared.place.Place.TheVariants.{Node, Gap, Nowhere}
use Rattle.ll_rules.specs.declared.moves.Target.{Target}
use Rattle.ll_rules.specs.declared.moves.Target.TheVariants.{New, Over}

-- the node of a number
abbrev pub node : ℕ → NodeId
node number = record { 0 = number }

-- a rule on the path of its node
abbrev pub rule_on_path : List Entry → (ℕ × Fs) → (Path × Fs)
rule_on_path tree rule = (path_at tree (node rule.0), rule.1)

-- rules on nodes as rules on the paths that these have in a tree
abbrev pub in_tree : List Entry → RulesOn ℕ → RulesOn Path
in_tree tree rules = record { handled_files = rules.handled_files; handled_network = rules.handled_network; file_rules = map (rule_on_path tree) rules.file_rules; port_rules = rules.port_rules }

-- the rules are on nodes of a tree
abbrev pub AreInTree : List Entry → RulesOn ℕ → Type 0
AreInTree tree rules = All (λ number. number < length tree) (map (λ rule. rule.0) rules.file_rules)

-- layers with rules on nodes as layers with rules on paths
abbrev pub all_in_tree : List Entry → List (RulesOn ℕ) → List (RulesOn Path)
all_in_tree tree layers = map (in_tree tree) layers

-- the node that a place names is of the tree
abbrev pub IsOfTree : List Entry → Place → Type 0
IsOfTree tree (Node node) = IsNode tree node
IsOfTree tree (Gap node) = IsNode tree node
IsOfTree tree Nowhere = Unit {0}

-- what a move names is of the tree
abbrev pub IsTargetIn : List Entry → Target → Type 0
IsTargetIn tree (New directory) = IsNode tree directory
IsTargetIn tree (Over there) = IsNode tree there

-- a fact on a target has one proof
pub IsTargetIn-once : (tree : List Entry) (target : Target) → IsProp (IsTargetIn tree target)
IsTargetIn-once tree (New directory) = hlevel props
IsTargetIn-once tree (Over there) = hlevel props

-- ---- the way from a node up to the root

-- how many nodes there are from a node up, it and the root included
unfoldable pub nodes_up : List Entry → Option NodeId → ℕ
nodes_up tree from = option_map_or (λ node. length (path_at tree node) + 1) from 0

-- what is granted from a node up, if there is one
unfoldable pub granted_above : List Entry → RulesOn ℕ → Option NodeId → FsRight → Bool
granted_above tree rules None right = false
granted_above tree rules (Some up) right = granted (in_tree tree rules) (path_at tree up) right
